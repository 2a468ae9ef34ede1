-- The steps of the calls, once their tests have passed.
-- Assumes nothing.
use Prim.Native.Nat.{ℕ, ◌≤◌, ◌<◌}
use mathlib.Core.List.{List}
use mathlib.Core.Option.{Option}
use mathlib.Core.Path.{◌≡◌, refl, sym, ap, ◌∙◌}
use native.Mathlib.Omega.{arith}
use borrow.Author.Tests.{le-leb, lt-leb}
use lib.ListN.{length, get_or, take}
use Rattle.std.specs.Prelude as prelude
use Rattle.std.specs.Prelude.{Some, None}
use Rattle.refusal.specs.Table.{Answer, granted, refused, ◌or_else◌}
use Rattle.decl.specs.Decl.{Decl, archetypes, rows_of, types_of, sizes_of}
use Rattle.decl.specs.Places.{row_width, base_of, cell_start}
use Rattle.decl.specs.Lookup.{column_of, searched}
use Rattle.decl.proofs.Keeping.{types_length, sizes_length}
use Rattle.decl.proofs.Placing.{total_in}
use Rattle.decl.proofs.Search.{Stands, column_stands, searched_rising}
use Rattle.cells.specs.Line.{cell_of, past_of, cell_at, run_line, row_bytes, transferred, told, line_told}
use Rattle.cells.specs.declared.Line.{Line}
use Rattle.cells.proofs.Lines.{told_fits, cell_told}
use Rattle.cells.proofs.Rows.{cell_past, to_run}
use Rattle.cells.proofs.Blocks.{block_ends, within_block}
use Rattle.row_step.specs.declared.Block.{Block}
use Rattle.row_step.specs.Tables.{Rows, line_in, row_removed}
use Rattle.row_step.proofs.Held.{row_removed_lem}
use Rattle.column_entry.proofs.Widths.{row_wide, line_cell, block_in_lem}
use Rattle.column_entry.specs.Entry.{block_in}
use Rattle.column_entry.specs.Kept.{Kept, There}
use Rattle.columns.specs.Calls.{removal, cell_for}
use Rattle.columns.specs.Find.{cell_at_column, cell_in}

-- Remove row: the step over the archetype's own block and sizes.
pub remove_told : (d : Decl) (w : Rows) (a r : ℕ) (t : There d w a r) (k : Block) (ns : List ℕ) → k ≡ block_in d a → ns ≡ sizes_of d a → {x : Option ℕ × Rows}
    → x ≡ row_removed k ns w a r → x ≡ removal d w a r
remove_told d w a r t k ns p q {x} f = (rw (p, q) at f) ∙ row_removed_lem (block_in d a) (sizes_of d a) w a r t.row_in (t.ready.counts_in a)

-- Move out: the row's bytes in column order.
pub move_told : (d : Decl) (a r : ℕ) (bytes out left : List ℕ) → a < archetypes d → r < rows_of d a → length out ≡ row_width d a → length bytes ≡ base_of d (archetypes d)
    → (k : Block) (ns : List ℕ) → k ≡ block_in d a → ns ≡ sizes_of d a → (l : Line) → l ≡ line_in k r → left ≡ transferred bytes l out run_line ns
    → left ≡ row_bytes bytes (line_in (block_in d a) r) (sizes_of d a)
move_told d a r bytes out left h m o b k ns p q l e f =
    (rw (e, p, q) at f)
    ∙ to_run (sizes_of d a) bytes out (line_in (block_in d a) r)
    (within_block (sizes_of d a) (base_of d a) (rows_of d a) r (length bytes) m (omega (arith, block_in_lem d a h)))
    (o ∙ row_wide d a)

-- Find: the column of a type, and where a line's cell in it is.
module _ (types sizes : List ℕ) (l : Line) (t : ℕ) where
  pub cell_missing : None ≡ searched types t → refused 15 ≡ cell_in types sizes l t
  unfolding cell_in
  cell_missing e = ap (cell_at_column sizes l) e

  module _ (j : ℕ) (at : Some j ≡ searched types t) where
    pub cell_none : length sizes ≤ j → refused 15 ≡ cell_in types sizes l t
    unfolding cell_in ◌or_else◌
    cell_none h = rw (← at, le-leb _ _ h)

    pub cell_some : j < length sizes → (m : Line) (x : ℕ) → m ≡ line_told (past_of l (take j sizes)) → x ≡ told (cell_of m (get_or sizes j 0))
        → granted (x, get_or sizes j 0) ≡ cell_in types sizes l t
    unfolding cell_in ◌or_else◌
    cell_some h m x p q = rw (← at, lt-leb _ _ h, q, p, cell_told (past_of l (take j sizes)) (get_or sizes j 0), cell_past l sizes j)

-- in an archetype that is declared
module _ (d : Decl) (a r t : ℕ) (k : Kept d) (declared : a < archetypes d) (row : r < rows_of d a) where
  -- a cell's place is told as it is
  place_told : (j : ℕ) → j < length (sizes_of d a) → told (cell_at (line_in (block_in d a) r) (sizes_of d a) j) ≡ cell_start d a j r
  place_told j h =
      sym (told_fits (cell_at (line_in (block_in d a) r) (sizes_of d a) j)
      (omega (arith, block_ends (sizes_of d a) (base_of d a) (rows_of d a) r j row h, block_in_lem d a declared, total_in d k.declared)))
      ∙ line_cell d a r j (omega arith)

  by_column : (c : prelude.Option ℕ) → Stands (types_of d a) t c → cell_at_column (sizes_of d a) (line_in (block_in d a) r) c ≡ cell_for d a r c
  unfolding ◌or_else◌
  by_column (Some j) p =
      let h : j < length (sizes_of d a) = omega (arith, types_length d k.declared.shaped a, sizes_length d k.declared.shaped a) in
      rw (lt-leb (length (sizes_of d a)) j h, place_told j h)
  by_column None p = refl

  pub cell_declared : cell_in (types_of d a) (sizes_of d a) (line_in (block_in d a) r) t ≡ cell_for d a r (column_of (types_of d a) t)
  unfolding cell_in
  cell_declared =
      ap (cell_at_column (sizes_of d a) (line_in (block_in d a) r)) (searched_rising (types_of d a) (k.declared.rises a) t)
      ∙ by_column (column_of (types_of d a) t) (column_stands (types_of d a) t)

  pub cell_of_told : (b : Block) (types sizes : List ℕ) → b ≡ block_in d a → types ≡ types_of d a → sizes ≡ sizes_of d a → (l : Line) → l ≡ line_in b r
      → {x : Answer (ℕ × ℕ)} → x ≡ cell_in types sizes l t → x ≡ cell_for d a r (column_of (types_of d a) t)
  cell_of_told b types sizes p q s l e f = (rw (e, p, q, s) at f) ∙ cell_declared
