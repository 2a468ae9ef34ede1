-- A run of stores, entry by entry, and what a first position says.
-- Assumes nothing.
use Prim.Native.Nat.{ℕ, zero, suc, ◌+◌, ◌<◌, ◌≤◌}
use mathlib.Core.Path.{◌≡◌, refl, ◌∙◌}
use mathlib.Core.Bool.{Bool, true, false, cond}
use mathlib.Core.List.{List, [], ◌∷◌}
use native.Mathlib.Omega.{arith}
use native.Mathlib.Nat.{not-suc-le-zero, le_of_suc-le-suc, add-zero}
use borrow.Author.Tests.{ltb-true, ltb-false, eqb-true, eqb-false}
use lib.Dec.{ltb, eqb}
use lib.ListN.{length, get_or, set, length-set}
use lib.Seq.{sets, get_or-set_same, get_or-set_other}
use Rattle.ids.specs.AllocAt.{position_of}

-- a number is 0 or more, and below another or not
pub none_or_some : {P : Type 0} (n : ℕ) → (n ≡ 0 → P) → (0 < n → P) → P
none_or_some zero f g = f refl
none_or_some (suc n) f g = g (omega arith)

pub below_or_not : {P : Type 0} (m n : ℕ) → (m < n → P) → (n ≤ m → P) → P
below_or_not {P} m n f g = by (ltb m n) refl
  where
    by : (t : Bool) → ltb m n ≡ t → P
    by true e = f (ltb-true m n e)
    by false e = g (ltb-false m n e)

-- values stored from position i on: what is before and after them stays, and they stand in order
pub sets_before : (l : List ℕ) (i : ℕ) (vs : List ℕ) (m : ℕ) → m < i → get_or (sets l i vs) m 0 ≡ get_or l m 0
sets_before l i [] m h = refl
sets_before l i (v ∷ vs) m h = sets_before (set l i v) (suc i) vs m (omega arith) ∙ get_or-set_other l i m v 0 (λ e. omega arith)

pub sets_after : (l : List ℕ) (i : ℕ) (vs : List ℕ) (m : ℕ) → i + length vs ≤ m → get_or (sets l i vs) m 0 ≡ get_or l m 0
sets_after l i [] m h = refl
sets_after l i (v ∷ vs) m h = sets_after (set l i v) (suc i) vs m (omega arith) ∙ get_or-set_other l i m v 0 (λ e. omega arith)

pub sets_at : (l : List ℕ) (i : ℕ) (vs : List ℕ) (k : ℕ) → k < length vs → i + k < length l → get_or (sets l i vs) (i + k) 0 ≡ get_or vs k 0
sets_at l i [] k h f = absurd (not-suc-le-zero h)
sets_at l i (v ∷ vs) zero h f = rw (add-zero i) (sets_before (set l i v) (suc i) vs i (omega arith) ∙ get_or-set_same l i v 0 (omega arith))
sets_at l i (v ∷ vs) (suc k) h f =
    let e : i + suc k ≡ suc i + k = omega arith in
    rw e (sets_at (set l i v) (suc i) vs k (le_of_suc-le-suc h) (rw (length-set l i v) (omega arith)))

-- the first position: n stands there, and nowhere before it
module _ (n : ℕ) where
  pub position_in : (ms : List ℕ) → position_of n ms ≤ length ms
  unfolding position_of
  position_in [] = omega arith
  position_in (m ∷ ms) = by (eqb m n) (position_in ms)
    where
      by : (t : Bool) → position_of n ms ≤ length ms → cond t 0 (suc (position_of n ms)) ≤ suc (length ms)
      by true h = omega arith
      by false h = omega arith

  pub position_holds : (ms : List ℕ) → position_of n ms < length ms → get_or ms (position_of n ms) 0 ≡ n
  unfolding position_of
  position_holds [] h = absurd (not-suc-le-zero h)
  position_holds (m ∷ ms) h = by (eqb m n) refl (position_holds ms) h
    where
      by : (t : Bool) → eqb m n ≡ t → (position_of n ms < length ms → get_or ms (position_of n ms) 0 ≡ n)
          → cond t 0 (suc (position_of n ms)) < suc (length ms) → get_or (m ∷ ms) (cond t 0 (suc (position_of n ms))) 0 ≡ n
      by true e f k = eqb-true m n e
      by false e f k = f (le_of_suc-le-suc k)

  pub position_first : (ms : List ℕ) (i : ℕ) → i < position_of n ms → get_or ms i 0 ≡ n → ⊥
  unfolding position_of
  position_first [] i h e = not-suc-le-zero h
  position_first (m ∷ ms) i h e = by (eqb m n) refl i (position_first ms) h e
    where
      by : (t : Bool) → eqb m n ≡ t → (i : ℕ) → ((j : ℕ) → j < position_of n ms → get_or ms j 0 ≡ n → ⊥)
          → i < cond t 0 (suc (position_of n ms)) → get_or (m ∷ ms) i 0 ≡ n → ⊥
      by true q i f k a = not-suc-le-zero k
      by false q zero f k a = eqb-false m n q a
      by false q (suc i) f k a = f i (le_of_suc-le-suc k) a
