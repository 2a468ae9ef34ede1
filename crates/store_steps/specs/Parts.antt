-- An archetype's part of the row tables, and of a table that has an entry a column: as its span says.
use Rattle.std.specs.Prelude.{ℕ, List, get_or, take, drop}
use Rattle.decl.specs.declared.Span.{Span}
use Rattle.row_step.specs.declared.Block.{Block}
use Rattle.row_step.specs.Tables.{block_of}

unfoldable pub block_by : List ℕ → Span → ℕ → Block
block_by rows span a = block_of span.row (get_or rows a 0) span.base

unfoldable pub part_by : List ℕ → Span → List ℕ
part_by table span = take span.columns (drop span.column table)
