-- The walk of two archetypes in step: if the columns that are left agree, then all do, and the types that are left decide whether all are the same.
-- Assumes nothing.
use Prim.Native.Nat.{ℕ, ◌+◌, ◌≤◌, ◌<◌}
use mathlib.Core.Bool.{Bool, true, false, not, ◌&&◌, and-false, or-true, or-false}
use mathlib.Core.Path.{◌≡◌, refl, sym, ap, ◌∙◌}
use mathlib.Core.Logic.{◌⊎◌, inl, inr, ⊎_elim}
use mathlib.Core.List.{List}
use native.Mathlib.Nat.{eq-or-lt_of_le}
use native.Mathlib.Numerals.{add-one}
use native.Mathlib.Omega.{arith}
use borrow.Author.Tests.{eq-eqb, ne_eqb, eqb-true, not-false}
use lib.Dec.{eqb}
use lib.ListN.{length, get_or, drop, drop_of_length-le}
use lib.Seq.{drop-cons}
use Rattle.decl.specs.Lists.{rising, same}
use Rattle.decl.specs.Rules.{two_sizes}
use Rattle.decl.specs.Steps.{clashing}
use Rattle.decl.proofs.Lists.{any_stop, any_at, any_false, rises, rises_to}

differing : (a b s t : ℕ) → (a ≡ b → s ≡ t) → (eqb a b && not (eqb s t)) ≡ false
differing a b s t h = cases (eqb a b) refl where
  cases : (e : Bool) → eqb a b ≡ e → (eqb a b && not (eqb s t)) ≡ false
  cases true e = rw (e, eq-eqb s t (h (eqb-true a b e)))
  cases false e = rw e

agreeing : (a b s t : ℕ) → (eqb a b && not (eqb s t)) ≡ false → a ≡ b → s ≡ t
agreeing a b s t e h = eqb-true s t (not-false (eqb s t) (rw (eq-eqb a b h) at e))

-- columns of one type, from i on and from j on, have one size
abbrev pub Agree : List ℕ → List ℕ → List ℕ → List ℕ → ℕ → ℕ → Type 0
Agree xs ss ys ts i j =
    (k l : ℕ) → i ≤ k → k < length xs → j ≤ l → l < length ys → get_or xs k 0 ≡ get_or ys l 0 → get_or ss k 0 ≡ get_or ts l 0

pub record Walked (xs ss ys ts : List ℕ) (differ : Bool) (i j : ℕ) : Type 0 where
  pub sizes : Agree xs ss ys ts i j → Agree xs ss ys ts 0 0
  pub types : same xs ys ≡ (not differ && same (drop i xs) (drop j ys))

module _ (xs ss ys ts : List ℕ) where
  pub two_at : (k l : ℕ) → k < length xs → l < length ys → get_or xs k 0 ≡ get_or ys l 0 → (get_or ss k 0 ≡ get_or ts l 0 → ⊥) → two_sizes xs ss ys ts ≡ true
  unfolding two_sizes
  two_at k l h m e n = any_stop _ _ k h (any_stop _ _ l m (rw (eq-eqb _ _ e, ne_eqb _ _ n)))

  pub two_none : Agree xs ss ys ts 0 0 → two_sizes xs ss ys ts ≡ false
  unfolding two_sizes
  two_none h = any_false _ _ (λ k m. any_false _ _ (λ l n. differing _ _ _ _ (h k l (omega arith) m (omega arith) n)))

  pub two_false : two_sizes xs ss ys ts ≡ false → (k l : ℕ) → k < length xs → l < length ys → get_or xs k 0 ≡ get_or ys l 0 → get_or ss k 0 ≡ get_or ts l 0
  unfolding two_sizes
  two_false e k l m n = agreeing _ _ _ _ (any_at _ _ (any_at _ _ e k m) l n)

  module _ (i j : ℕ) where
    -- a type in common, with two sizes
    pub walk_found : i < length xs → j < length ys → get_or xs i 0 ≡ get_or ys j 0 → (get_or ss i 0 ≡ get_or ts j 0 → ⊥) → true ≡ clashing xs ss ys ts
    unfolding clashing
    walk_found h m e n = rw (two_at i j h m e n, or-true)

    -- the walk has come to an end of the types: no type has two sizes, and what is left tells whether they are the same
    pub walk_end : (differ : Bool) → Walked xs ss ys ts differ i j → (length xs ≤ i) ⊎ (length ys ≤ j) → clashing xs ss ys ts ≡ (not differ && same (drop i xs) (drop j ys))
    unfolding clashing
    walk_end differ w h =
        rw (two_none (w.sizes (λ k l a m b n v. ⊎_elim (λ (q : length xs ≤ i). omega arith) (λ (q : length ys ≤ j). omega arith) h)), or-false) w.types

  module _ (rx : rising xs ≡ true) (ry : rising ys ≡ true) (differ : Bool) (i j : ℕ) (w : Walked xs ss ys ts differ i j) (hi : i < length xs) (hj : j < length ys) where
    -- past a type in common
    pub walk_both : get_or xs i 0 ≡ get_or ys j 0 → get_or ss i 0 ≡ get_or ts j 0 → Walked xs ss ys ts differ (i + 1) (j + 1)
    unfolding same
    walk_both e q =
        record {
          sizes = λ h. w.sizes (λ k l a m b n v. met h k l m n v (eq-or-lt_of_le a) (eq-or-lt_of_le b));
          types = w.types ∙ rw (drop-cons xs i 0, drop-cons ys j 0, add-one, add-one) (simp (eq-eqb _ _ e));
        } where
          met : Agree xs ss ys ts (i + 1) (j + 1) → (k l : ℕ) → k < length xs → l < length ys → get_or xs k 0 ≡ get_or ys l 0 → (i ≡ k) ⊎ (i < k) → (j ≡ l) ⊎ (j < l) → get_or ss k 0 ≡ get_or ts l 0
          met h k l m n v (inl a) (inl b) = rw (← a, ← b) q
          met h k l m n v (inl a) (inr b) = omega (arith, ap (λ (z : ℕ). get_or xs z 0) a, rises ys ry j l b n)
          met h k l m n v (inr a) (inl b) = omega (arith, ap (λ (z : ℕ). get_or ys z 0) b, rises xs rx i k a m)
          met h k l m n v (inr a) (inr b) = h k l (omega arith) m (omega arith) n v

    -- past a type that only the one has, or only the other
    pub walk_left : get_or xs i 0 < get_or ys j 0 → Walked xs ss ys ts true (i + 1) j
    unfolding same
    walk_left e =
        record {
          sizes = λ h. w.sizes (λ k l a m b n v. ⊎_elim (λ q. omega (arith, ap (λ (z : ℕ). get_or xs z 0) q, rises_to ys ry j l b n)) (λ q. h k l (omega arith) m b n v) (eq-or-lt_of_le a));
          types = w.types ∙ rw (drop-cons xs i 0, drop-cons ys j 0) (simp (ne_eqb (get_or xs i 0) (get_or ys j 0) (λ q. omega arith), and-false));
        }

    pub walk_right : get_or ys j 0 < get_or xs i 0 → Walked xs ss ys ts true i (j + 1)
    unfolding same
    walk_right e =
        record {
          sizes = λ h. w.sizes (λ k l a m b n v. ⊎_elim (λ q. omega (arith, ap (λ (z : ℕ). get_or ys z 0) q, rises_to xs rx i k a m)) (λ q. h k l a m (omega arith) n v) (eq-or-lt_of_le b));
          types = w.types ∙ rw (drop-cons xs i 0, drop-cons ys j 0) (simp (ne_eqb (get_or xs i 0) (get_or ys j 0) (λ q. omega arith), and-false));
        }

  -- the right is at its end, and the left is not
  pub walk_short : (differ : Bool) (i j : ℕ) → Walked xs ss ys ts differ i j → i < length xs → length ys ≤ j → false ≡ clashing xs ss ys ts
  unfolding same
  walk_short differ i j w h m = sym (walk_end i j differ w (inr m) ∙ rw (drop-cons xs i 0, drop_of_length-le ys m, and-false))

  -- the left is at its end
  module _ (differ : Bool) (i j : ℕ) (w : Walked xs ss ys ts differ i j) (h : length xs ≤ i) where
    pub walk_differ : differ ≡ true → false ≡ clashing xs ss ys ts
    walk_differ d = sym (walk_end i j differ w (inl h) ∙ rw d)

    pub walk_same : differ ≡ false → j ≤ length ys → eqb j (length ys) ≡ clashing xs ss ys ts
    unfolding same
    walk_same d m =
        sym (walk_end i j differ w (inl h) ∙ rw (d, drop_of_length-le xs h)
        (⊎_elim (λ e. rw (drop_of_length-le ys {i = j} (omega arith), eq-eqb _ _ e)) (λ l. rw (drop-cons ys j 0, ne_eqb j (length ys) (λ e. omega arith))) (eq-or-lt_of_le m)))
