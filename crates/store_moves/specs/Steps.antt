-- What the tests see and the steps leave on any tables; on tables that pass the first tests they are the rules of Moves.
use Rattle.std.specs.Prelude.{ℕ, List, [], ◌∷◌, leb, get_or, set, take, drop}
use Rattle.refusal.specs.Table.{Rule, ◌when◌}
use Rattle.borrow_word.specs.Slice.{any_held}
use Rattle.cells.specs.Cell.{written}
use Rattle.cells.specs.Line.{next_of, past_of, run_line, line_told, transferred}
use Rattle.cells.specs.declared.Line.{Line}
use Rattle.row_step.specs.declared.Block.{Block}
use Rattle.row_step.specs.Tables.{count_of}
use Rattle.store_steps.specs.Seats.{Seats, seats_of, seated_rows, vacated_seats}
use Rattle.store_tables.specs.Store.{Store}
use Rattle.store_tables.specs.Seen.{moved_seen}

-- a row at place (a, r) that is to move to archetype b, where the rows of a begin at `first`
unfoldable pub move_seen : Store → ℕ → ℕ → ℕ → ℕ → List Rule
move_seen s first a r b =
    8 when any_held s.words
    ∷ 4 when leb (get_or s.decl.rows b 0) (get_or s.rows.counts b 0)
    ∷ 1 when moved_seen first s.ids.head.used s.ids.archetypes s.ids.indices s.rows.numbers s.rows.counts a r
    ∷ []

-- the line past a run of columns and a value of one more
abbrev pub after_of : List ℕ → ℕ → Line
after_of before size = line_told (next_of (line_told (past_of run_line before)) size)

-- a buffer with a value between the bytes of a row's columns before and those after
unfoldable pub joined : List ℕ → List ℕ → Line → List ℕ → ℕ → List ℕ → Line → List ℕ → List ℕ
joined out b row before size value rest after =
    transferred b rest (written (transferred b row out run_line before) (line_told (past_of run_line before)).start value) (after_of before size) after

-- a buffer with the bytes of a row of columns of these sizes, a value in the stead of those from `column` to `past`
unfoldable pub gathered : List ℕ → List ℕ → Line → List ℕ → ℕ → ℕ → ℕ → List ℕ → List ℕ
gathered out b row sizes column past size value = joined out b row (take column sizes) size value (line_told (past_of row (take past sizes))) (drop past sizes)

-- number n's row at place (a, r) moved to the first unused row of archetype b, with a run of bytes, and its place written
unfoldable pub moved_seats : Block → List ℕ → Block → List ℕ → Seats → ℕ → ℕ → ℕ → ℕ → List ℕ → Seats
moved_seats from own to sizes t a r b n run = placed_seats (vacated_seats from own (seats_of t.archetypes t.indices (seated_rows to sizes t.rows b n run)) a r)
  where
    placed_seats : Seats → Seats
    placed_seats u = seats_of (set u.archetypes n b) (set u.indices n (count_of t.rows b)) u.rows
