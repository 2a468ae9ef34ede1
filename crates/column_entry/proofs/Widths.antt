-- How wide a row is, where its cells are, and where an archetype's bytes end.
-- Assumes nothing.
use Prim.Native.Nat.{ℕ, zero, suc, ◌+◌, ◌*◌, ◌≤◌, ◌<◌}
use mathlib.Core.List.{List}
use mathlib.Core.Path.{◌≡◌, sym, ap, ◌∙◌}
use native.Mathlib.Omega.{arith}
use lib.ListN.{length, take}
use lib.Seq.{take-length}
use Rattle.decl.specs.Lists.{first_of}
use Rattle.decl.specs.Decl.{Decl, archetypes, rows_of, sizes_of}
use Rattle.decl.specs.Places.{row_width, base_of, cell_start}
use Rattle.decl.proofs.Lists.{first_none, first_next}
use Rattle.decl.proofs.Placing.{base_next, base_grows}
use Rattle.decl.proofs.Lending.{row_width_lem, column_start_lem, cell_start_lem}
use Rattle.cells.specs.Line.{cell_at, width}
use Rattle.cells.proofs.Rows.{cell_at_lem}
use Rattle.cells.proofs.Blocks.{width_none, width_next}
use Rattle.row_step.specs.Tables.{line_in}
use Rattle.column_entry.specs.Entry.{block_in}

-- the declaration's sums are the widths of a line's columns
pub firsts : (xs : List ℕ) (j : ℕ) → j ≤ length xs → first_of xs j ≡ width (take j xs)
firsts xs zero h = first_none xs ∙ sym (width_none xs)
firsts xs (suc j) h = omega (arith, first_next xs j, firsts xs j (omega arith), width_next xs j h)

module _ (d : Decl) (a : ℕ) where
  pub row_wide : row_width d a ≡ width (sizes_of d a)
  row_wide = row_width_lem d a ∙ firsts (sizes_of d a) (length (sizes_of d a)) (omega arith) ∙ ap width (take-length (sizes_of d a))

  -- a row's cell in a column
  pub line_cell : (r j : ℕ) → j ≤ length (sizes_of d a) → cell_at (line_in (block_in d a) r) (sizes_of d a) j ≡ cell_start d a j r
  line_cell r j h =
      cell_at_lem (line_in (block_in d a) r) (sizes_of d a) j
      ∙ rw (cell_start_lem d a j r, column_start_lem d a j, firsts (sizes_of d a) j h)

  -- the archetype's bytes end where the next one's begin, and in the buffer
  pub block_end : base_of d a + rows_of d a * width (sizes_of d a) ≡ base_of d (a + 1)
  block_end = rw (← row_wide) (sym (base_next d a))

  pub block_in_lem : a < archetypes d → base_of d a + rows_of d a * width (sizes_of d a) ≤ base_of d (archetypes d)
  block_in_lem h = rw block_end (base_grows d (a + 1) (archetypes d) (omega arith))
