-- Row numbers, row counts and bytes, in archetype order, and what a row that is appended or removed leaves of them.
use Rattle.std.specs.Prelude as prelude
use Rattle.std.specs.Prelude.{ℕ, ◌+◌, ◌-◌, cond, List, Some, None, eqb, ltb, get_or, set}
use Rattle.std.proofs.Math.Option.{Option, none, some}
use Rattle.cells.specs.Cell.{cell}
use Rattle.cells.specs.Line.{line_of, cell_at, carried}
use Rattle.cells.specs.declared.Line.{Line}
use Rattle.handle.specs.declared.Number.{Number}
use Rattle.row_step.specs.declared.Block.{Block}
use Rattle.row_step.specs.declared.RowTables.{RowTables}

pub record Rows : Type 0 where
  pub numbers : List ℕ
  pub counts : List ℕ
  pub bytes : List ℕ

abbrev pub tables_of : List ℕ → List ℕ → List ℕ → Rows
tables_of numbers counts bytes = record { numbers = numbers; counts = counts; bytes = bytes }

-- the tables of a view
abbrev pub rows_in : RowTables → Rows
rows_in t = tables_of t.numbers.now t.counts.now t.bytes.now

-- the rows of archetype a that are used, and the last of them
abbrev pub count_of : Rows → ℕ → ℕ
count_of w a = get_or w.counts a 0

abbrev pub last_of : Rows → ℕ → ℕ
last_of w a = count_of w a - 1

abbrev pub block_of : ℕ → ℕ → ℕ → Block
block_of first rows base = record { first = first; rows = rows; base = base }

-- the number in row r of an archetype, and that row across its columns
abbrev pub number_in : Block → Rows → ℕ → ℕ
number_in k w r = get_or w.numbers (k.first + r) 0

abbrev pub line_in : Block → ℕ → Line
line_in k r = line_of k.base k.rows r

-- the bytes that it holds in column j, of columns of these sizes
unfoldable pub held_in : Block → List ℕ → List ℕ → ℕ → ℕ → List ℕ
held_in k sizes b r j = cell b (cell_at (line_in k r) sizes j) (get_or sizes j 0)

-- Allocate: the number goes into the first unused row.
unfoldable pub appended : Block → Rows → ℕ → ℕ → Rows
appended k w a n = tables_of (set w.numbers (k.first + count_of w a) n) (set w.counts a (count_of w a + 1)) w.bytes

-- Remove row: every column's last row and its number are copied over it. Over the last row itself that copies nothing.
unfoldable pub removed : Block → List ℕ → Rows → ℕ → ℕ → Rows
removed k sizes w a r =
    tables_of (set w.numbers (k.first + r) (number_in k w (last_of w a))) (set w.counts a (last_of w a))
    (carried w.bytes (line_in k (last_of w a)) (line_in k r) sizes)

-- the moved number, or none if the row is last
unfoldable pub moved_by : Block → Rows → ℕ → ℕ → Option ℕ
moved_by k w a r = cond (eqb r (last_of w a)) none (some (number_in k w (last_of w a)))

-- the number that a removal says it moved
abbrev pub moved_of : prelude.Option Number → Option ℕ
moved_of (Some n) = some n.0
moved_of None = none

-- where there is no such row nothing is moved and nothing changes
unfoldable pub row_removed : Block → List ℕ → Rows → ℕ → ℕ → Option ℕ × Rows
row_removed k sizes w a r = cond (ltb r (count_of w a)) (moved_by k w a r, removed k sizes w a r) (none, w)
