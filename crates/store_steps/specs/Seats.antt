-- The tables of places and of rows, and what a row that leaves and a row that is taken do to them.
use Rattle.std.specs.Prelude.{ℕ, cond, List, ltb, set}
use Rattle.std.proofs.Math.Option.{Option, none, some}
use Rattle.cells.specs.Line.{run_line, transferred}
use Rattle.row_step.specs.declared.Block.{Block}
use Rattle.row_step.specs.Tables.{Rows, tables_of, count_of, line_in, appended, row_removed}

-- archetype and index of each number; row numbers, row counts and bytes
pub record Seats : Type 0 where
  pub archetypes : List ℕ
  pub indices : List ℕ
  pub rows : Rows

abbrev pub seats_of : List ℕ → List ℕ → Rows → Seats
seats_of a x w = record { archetypes = a; indices = x; rows = w }

-- an entry of the moved number, where one was moved
abbrev pub learnt : Option ℕ → List ℕ → ℕ → List ℕ
learnt none table v = table
learnt (some n) table v = set table n v

-- row r of archetype a is removed, and the number that falls into it has it as its place
unfoldable pub vacated_seats : Block → List ℕ → Seats → ℕ → ℕ → Seats
vacated_seats k sizes t a r =
    seats_of (learnt (row_removed k sizes t.rows a r).0 t.archetypes a) (learnt (row_removed k sizes t.rows a r).0 t.indices r)
    (row_removed k sizes t.rows a r).1

-- the bytes with a run of them in the components of the first unused row
abbrev pub filled : Block → List ℕ → Rows → ℕ → List ℕ → List ℕ
filled k sizes w a run = transferred run run_line w.bytes (line_in k (count_of w a)) sizes

-- number n in the first unused row of archetype a, with that run; where none is unused nothing changes
unfoldable pub seated_rows : Block → List ℕ → Rows → ℕ → ℕ → List ℕ → Rows
seated_rows k sizes w a n run =
    cond (ltb (count_of w a) k.rows) (appended k (tables_of w.numbers w.counts (filled k sizes w a run)) a n) w
