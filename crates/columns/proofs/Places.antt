-- Where an archetype's rows and cells are in the lent tables.
-- Assumes nothing.
use Prim.Native.Nat.{ℕ, zero, suc, ◌+◌, ◌-◌, ◌≤◌, ◌<◌}
use mathlib.Core.Logic.{⊎_elim}
use mathlib.Core.Path.{◌≡◌, ap, ◌∙◌}
use native.Mathlib.Nat.{le_of_suc-le-suc, eq-or-lt_of_le}
use native.Mathlib.Numerals.{add-one}
use native.Mathlib.Omega.{arith}
use lib.ListN.{length, take, drop}
use Rattle.decl.specs.Decl.{Decl, archetypes, rows_of, width_of, first_row, types_of, sizes_of}
use Rattle.decl.specs.Places.{base_of, span_of}
use Rattle.decl.specs.declared.Span.{Span}
use Rattle.decl.proofs.Placing.{row_next}
use Rattle.decl.proofs.Lending.{columns_in, types_lent, sizes_lent}
use Rattle.column_entry.specs.Entry.{span_in}
use Rattle.column_entry.specs.Kept.{Kept}
use Rattle.column_entry.proofs.Keeping.{span_kept}

-- the archetype's row numbers end where the next one's begin, and in the table
pub rows_grow : (d : Decl) (a b : ℕ) → a ≤ b → first_row d a ≤ first_row d b
rows_grow d a zero h = let e : a ≡ 0 = omega arith in rw e (omega arith)
rows_grow d a (suc b) h =
    ⊎_elim (λ e. rw e (omega arith))
    (λ k. omega (arith, rows_grow d a b (le_of_suc-le-suc k), rw add-one at (row_next d b))) (eq-or-lt_of_le h)

pub rows_in : (d : Decl) (a : ℕ) → a < archetypes d → first_row d a + rows_of d a ≤ first_row d (archetypes d)
rows_in d a h = omega (arith, row_next d a, rows_grow d (a + 1) (archetypes d) (omega arith))

-- What the span of an archetype says.
module _ (d : Decl) (a : ℕ) (k : Kept d) (h : a ≤ archetypes d) (s : Span) (span : s ≡ span_in d a) where
  pub span_told : s ≡ span_of d a
  span_told = span ∙ span_kept d a k h

  pub first_told : s.row ≡ first_row d a
  first_told = ap (λ (t : Span). t.row) span_told

  pub base_told : s.base ≡ base_of d a
  base_told = ap (λ (t : Span). t.base) span_told

  -- its columns are within the tables of all
  pub columns_fit : s.column + s.columns ≤ length d.sizes
  columns_fit =
      omega (arith, columns_in d a k.declared.shaped, k.declared.shaped.sizes_long, ap (λ (t : Span). t.column) span_told, ap (λ (t : Span). t.columns) span_told)

  pub types_fit : s.column + s.columns ≤ length d.types
  types_fit = omega (arith, columns_fit, k.declared.shaped.sizes_long, k.declared.shaped.types_long)

  ends : s.column + s.columns ≡ s.column + width_of d a
  ends = ap (λ (t : Span). s.column + t.columns) span_told

  pub types_part : take (s.column + s.columns - s.column) (drop s.column d.types) ≡ types_of d a
  types_part = types_lent d a s.column (s.column + s.columns) (ap (λ (t : Span). t.column) span_told) ends

  pub sizes_part : take (s.column + s.columns - s.column) (drop s.column d.sizes) ≡ sizes_of d a
  sizes_part = sizes_lent d a s.column (s.column + s.columns) (ap (λ (t : Span). t.column) span_told) ends
