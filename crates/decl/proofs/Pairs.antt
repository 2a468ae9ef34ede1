-- The archetypes compared pair by pair: what `clash` is lent, and what it says.
-- Assumes nothing.
use Prim.Native.Nat.{ℕ, ◌+◌, ◌-◌, ◌<◌}
use mathlib.Core.Bool.{Bool, true}
use mathlib.Core.Path.{◌≡◌, sym, ◌∙◌}
use mathlib.Core.List.{List}
use native.Mathlib.Omega.{arith}
use borrow.Author.Tests.{not-false}
use lib.ListN.{length, get_or, take, drop}
use Rattle.decl.specs.Lists.{first_of, part_of, rising}
use Rattle.decl.specs.Steps.{clashing, clash_at, falls, Risen}
use Rattle.decl.proofs.Lists.{any_at, part_lent, part_short, part_at, part_fits, parts_paired}
use Rattle.decl.proofs.Merge.{Agree}

module _ (widths types sizes : List ℕ) where
  pub part_rises : Risen widths types sizes → (a : ℕ) → a < length widths → rising (part_of widths types a) ≡ true
  part_rises g a h = not-false _ (any_at (falls widths types) (length widths) g.rises a h)

  module _ (a b at end : ℕ) (ys ts : List ℕ) (ha : at ≡ first_of widths a) (he : end ≡ first_of widths (a + 1)) (hy : ys ≡ part_of widths types b) (ht : ts ≡ part_of widths sizes b) where
    pub clash_lent : Risen widths types sizes → a < length widths → b < length widths
        → (rising (take (end - at) (drop at types)) ≡ true) × (rising ys ≡ true) × (length (take (end - at) (drop at sizes)) ≡ length (take (end - at) (drop at types))) × (length ts ≡ length ys)
    clash_lent g l m =
        rw (hy, ht, part_lent widths types a at end ha he, part_lent widths sizes a at end ha he)
        (part_rises g a l, part_rises g b m, parts_paired widths types sizes a g.paired, parts_paired widths types sizes b g.paired)

    pub clash_told : {r : Bool} → r ≡ clashing (take (end - at) (drop at types)) (take (end - at) (drop at sizes)) ys ts → clash_at widths types sizes a b ≡ r
    clash_told e = rw (← part_lent widths types a at end ha he, ← part_lent widths sizes a at end ha he, ← hy, ← ht) (sym e)

  -- where a type has one size throughout, the parts agree
  pub parts_agree : (n : ℕ) → ((p q : ℕ) → p < first_of widths n → q < first_of widths n → get_or types p 0 ≡ get_or types q 0 → get_or sizes p 0 ≡ get_or sizes q 0)
      → (a b : ℕ) → a < n → b < n → Agree (part_of widths types a) (part_of widths sizes a) (part_of widths types b) (part_of widths sizes b) 0 0
  parts_agree n one a b h i k l u m v w e =
      let x : k < get_or widths a 0 = omega (arith, part_short widths types a) in
      let y : l < get_or widths b 0 = omega (arith, part_short widths types b) in
      part_at widths sizes a k x
      ∙ one (first_of widths a + k) (first_of widths b + l) (omega (arith, part_fits widths a n h)) (omega (arith, part_fits widths b n i))
      (sym (part_at widths types a k x) ∙ e ∙ part_at widths types b l y)
      ∙ sym (part_at widths sizes b l y)
