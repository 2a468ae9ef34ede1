-- A value that no column of its type finds too long or too short has the size of each.
-- Assumes nothing.
use Prim.Native.Nat.{ℕ, zero, suc, ◌+◌, ◌<◌}
use native.Mathlib.Omega.{arith}
use mathlib.Core.Path.{◌≡◌, refl, sym, ◌∙◌}
use mathlib.Core.Bool.{Bool, true, false}
use lib.Dec.{eqb}
use lib.ListN.{length, get_or, drop}
use borrow.Author.Tests.{eqb-true, eqb-false, not-false}
use Rattle.decl.specs.Decl.{Decl}
use Rattle.decl.specs.Kept.{Declared}
use Rattle.decl.proofs.Keeping.{one_size_at}
use Rattle.column_entry.specs.Entry.{wrong_size}
use Rattle.column_entry.proofs.Loops.{size_here, size_next}

module _ (d : Decl) (k : Declared d) (t n q : ℕ) (h : q < length d.types) (e : get_or d.types q 0 ≡ t) where
  long : length d.sizes ≡ length d.types
  long = k.shaped.sizes_long ∙ sym k.shaped.types_long

  -- the columns from p on, the first of them of this type or not
  here : (p : ℕ) → p < length d.types → get_or d.types p 0 ≡ t → wrong_size (drop p d.types) (drop p d.sizes) t n ≡ false → get_or d.sizes q 0 ≡ n
  here p l x w =
      one_size_at d k q p h l (e ∙ sym x)
      ∙ eqb-true (get_or d.sizes p 0) n (not-false _ (sym (size_here d.types d.sizes t n p l (omega (arith, long)) x) ∙ w))

  step : (p : ℕ) → p < length d.types → (wrong_size (drop (p + 1) d.types) (drop (p + 1) d.sizes) t n ≡ false → get_or d.sizes q 0 ≡ n)
      → wrong_size (drop p d.types) (drop p d.sizes) t n ≡ false → get_or d.sizes q 0 ≡ n
  step p l next w = by (eqb (get_or d.types p 0) t) refl
    where
      by : (b : Bool) → eqb (get_or d.types p 0) t ≡ b → get_or d.sizes q 0 ≡ n
      by true x = here p l (eqb-true (get_or d.types p 0) t x) w
      by false x = next (sym (size_next d.types d.sizes t n p l (omega (arith, long)) (eqb-false (get_or d.types p 0) t x)) ∙ w)

  from : (r p : ℕ) → p + r ≡ q → wrong_size (drop p d.types) (drop p d.sizes) t n ≡ false → get_or d.sizes q 0 ≡ n
  from zero p m w = let z : p ≡ q = omega arith in here p (omega arith) (rw z e) w
  from (suc r) p m w = step p (omega arith) (from r (p + 1) (omega arith)) w

  pub size_right : wrong_size d.types d.sizes t n ≡ false → get_or d.sizes q 0 ≡ n
  size_right w = from q 0 (omega arith) w
