-- The steps of a move, over plain values: what each call left, put together.
-- Assumes nothing.
use Prim.Native.Nat.{ℕ, ◌-◌, min}
use mathlib.Core.Path.{◌≡◌, ◌∙◌}
use mathlib.Core.List.{List}
use lib.ListN.{length, get_or, set, take, drop}
use Rattle.cells.specs.Cell.{written}
use Rattle.cells.specs.Line.{next_of, past_of, run_line, line_told, transferred}
use Rattle.cells.specs.declared.Line.{Line}
use Rattle.row_step.specs.declared.Block.{Block}
use Rattle.row_step.specs.Tables.{Rows}
use Rattle.store_steps.specs.Seats.{Seats, seats_of, seated_rows, vacated_seats}
use Rattle.store_moves.specs.Steps.{joined, gathered, moved_seats}
use Rattle.store_moves.proofs.Splicing.{front_lent, back_lent}

pub joins : (out b : List ℕ) (row : Line) (before : List ℕ) (size : ℕ) (value : List ℕ) (rest : Line) (after : List ℕ)
    → (gap : Line) → gap ≡ line_told (past_of run_line before)
    → (x : List ℕ) → x ≡ transferred b row out run_line before
    → (y : List ℕ) → y ≡ written x gap.start value
    → (line : Line) → line ≡ line_told (next_of gap size)
    → (z : List ℕ) → z ≡ transferred b rest y line after → z ≡ joined out b row before size value rest after
unfolding joined
joins out b row before size value rest after gap g x p y q line l z r =
    r ∙ rw (l, q, p, g)

pub gathers : (out b : List ℕ) (row : Line) (own : List ℕ) (column past size : ℕ) (value : List ℕ)
    → (middle last : ℕ) → middle ≡ min column (length own) → last ≡ min past (length own)
    → (rest : Line) → rest ≡ line_told (past_of row (take last own))
    → (z : List ℕ) → z ≡ joined out b row (take middle own) size value rest (take (length own - last) (drop last own))
    → z ≡ gathered out b row own column past size value
unfolding gathered
gathers out b row own column past size value middle last m l rest r z j =
    j ∙ rw (r, front_lent own column middle m, front_lent own past last l, back_lent own past last l)

pub moves : (from : Block) (own : List ℕ) (to : Block) (sizes : List ℕ) (t : Seats) (a r b n : ℕ) (run : List ℕ)
    → (count : ℕ) → count ≡ get_or t.rows.counts b 0
    → (w : Rows) → w ≡ seated_rows to sizes t.rows b n run
    → (archetypes indices : List ℕ) (left : Rows) → seats_of archetypes indices left ≡ vacated_seats from own (seats_of t.archetypes t.indices w) a r
    → (placed listed : List ℕ) → (placed ≡ set archetypes n b) × (listed ≡ set indices n count)
    → seats_of placed listed left ≡ moved_seats from own to sizes t a r b n run
unfolding moved_seats
moves from own to sizes t a r b n run count c w s archetypes indices left v placed listed p =
    let u : seats_of archetypes indices left ≡ vacated_seats from own (seats_of t.archetypes t.indices (seated_rows to sizes t.rows b n run)) a r = rw s at v in
    rw (p.0, p.1, c, ← u)
