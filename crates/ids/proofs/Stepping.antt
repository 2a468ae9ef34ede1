-- Where a number stands first, as the library's search answers it; a run of numbers, one by one.
-- Assumes nothing.
use Prim.Native.Nat.{ℕ, suc, ◌+◌, ◌-◌, ◌<◌, ◌≤◌}
use mathlib.Core.Path.{◌≡◌, refl, sym}
use mathlib.Core.Bool.{Bool, true, false, cond}
use mathlib.Core.List.{List}
use native.Mathlib.Omega.{arith}
use native.Mathlib.Numerals.{add-one}
use borrow.Author.Tests.{lt-ltb, ltb-true, ltb-false}
use lib.Dec.{ltb}
use lib.ListN.{length, take, set, length-take}
use lib.Seq.{sets}
use Rattle.std.specs.Prelude.{Option, Some, None, ◌==◌, position}
use Rattle.std.specs.List.{position_or_len}
use Rattle.std.specs.Option.{is_some}
use Rattle.std.proofs.lemmas.List.Recursion.{is_position_or_len}
use Rattle.id_tables.specs.Runs.{up_from, up_from_none, up_from_cons}
use Rattle.id_tables.specs.Ids.{Ids, EntryOk}
use Rattle.ids.specs.AllocAt.{position_of, pending_at}
use Rattle.ids.proofs.Listing.{position_in}

module _ (n : ℕ) where
  position_is : (ms : List ℕ) → position_of n ms ≡ position_or_len (λ m. m == n) ms
  unfolding position_of
  position_is = is_position_or_len (position_of n) (λ m. m == n) refl (λ m ms. let e : 1 + position_of n ms ≡ suc (position_of n ms) = omega arith in rw e)

  stands : (at : ℕ) (ms : List ℕ) → Some at ≡ position (λ m. m == n) ms → (at ≡ position_of n ms) × (position_of n ms < length ms)
  stands at ms e = rw (position_is ms) (by (ltb (position_or_len (λ m. m == n) ms) (length ms)) refl e)
    where
      by : (t : Bool) → ltb (position_or_len (λ m. m == n) ms) (length ms) ≡ t → Some at ≡ cond t (Some (position_or_len (λ m. m == n) ms)) None
          → (at ≡ position_or_len (λ m. m == n) ms) × (position_or_len (λ m. m == n) ms < length ms)
      by true q w = (cc, ltb-true _ _ q)
      by false q w = cc

  absent : (ms : List ℕ) → None ≡ position (λ m. m == n) ms → length ms ≤ position_of n ms
  absent ms e = rw (position_is ms) (by (ltb (position_or_len (λ m. m == n) ms) (length ms)) refl e)
    where
      by : (t : Bool) → ltb (position_or_len (λ m. m == n) ms) (length ms) ≡ t → None ≡ cond t (Some (position_or_len (λ m. m == n) ms)) None
          → length ms ≤ position_or_len (λ m. m == n) ms
      by true q w = cc
      by false q w = ltb-false _ _ q

  pub is_there : (o : Option ℕ) (p : List ℕ) (count : ℕ) → count ≤ length p → o ≡ position (λ m. m == n) (take count p)
      → is_some o ≡ ltb (position_of n (take count p)) count
  is_there o p count h e =
      let k : length (take count p) ≡ count = rw length-take (omega arith) in
      rw (e, position_is (take count p), k) (by (ltb (position_or_len (λ m. m == n) (take count p)) count))
    where
      by : (t : Bool) → is_some (cond t (Some (position_or_len (λ m. m == n) (take count p))) None) ≡ t
      by true = refl
      by false = refl

-- of the pending numbers: where the number is found, and what its absence says
module _ (s : Ids) (n : ℕ) (ok : EntryOk s) where
  pub pending_stands : (at : ℕ) → Some at ≡ position (λ m. m == n) (take s.head.pending s.pending) → (at ≡ pending_at s n) × (pending_at s n < s.head.pending)
  pending_stands at e =
      let h = stands n at (take s.head.pending s.pending) e in
      let k : length (take s.head.pending s.pending) ≤ s.head.pending = rw length-take (omega arith) in
      (h.0, omega (arith, h.1))

  pub pending_absent : None ≡ position (λ m. m == n) (take s.head.pending s.pending) → s.head.pending ≤ pending_at s n
  pending_absent e =
      let k : length (take s.head.pending s.pending) ≡ s.head.pending = rw length-take (omega (arith, ok.pending_long, ok.used_in, ok.pending_in)) in
      omega (arith, absent n (take s.head.pending s.pending) e)

-- a list shorter than its count ends before it
pub short_list : (n : ℕ) (p : List ℕ) (count : ℕ) → length p < count → true ≡ ltb (position_of n (take count p)) count
short_list n p count h =
    let k : length (take count p) ≤ length p = rw length-take (omega arith) in
    sym (lt-ltb (position_of n (take count p)) count (omega (arith, position_in n (take count p))))

-- the numbers n..to from position p on
module _ (l : List ℕ) (p n to : ℕ) where
  pub queue_one : n < to → sets l p (up_from n (to - n)) ≡ sets (set l p n) (p + 1) (up_from (n + 1) (to - (n + 1)))
  queue_one h = let e : to - n ≡ suc (to - (n + 1)) = omega arith in rw (e, up_from_cons n (to - (n + 1)), add-one p)

  pub queue_none : to ≤ n → sets l p (up_from n (to - n)) ≡ l
  queue_none h = let e : to - n ≡ 0 = omega arith in rw (e, up_from_none n)
