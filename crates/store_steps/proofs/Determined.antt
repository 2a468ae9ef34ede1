-- The contracts determine the results and what is left of everything lent: no second result fits. One instance a function, under its name.
-- Assumes nothing.
use Prim.Native.Nat.{ℕ}
use mathlib.Core.Path.{◌≡◌, sym, ◌∙◌}
use mathlib.Core.List.{List}
use Rattle.decl.specs.declared.Span.{Span}
use Rattle.row_step.specs.Tables.{Rows}
use Rattle.store_steps.specs.Parts.{block_by, part_by}
use Rattle.store_steps.specs.Seats.{Seats, vacated_seats, seated_rows}

pub part_of : (table : List ℕ) (span : Span) (r r' : List ℕ) → r ≡ part_by table span → r' ≡ part_by table span → r ≡ r'
part_of table span r r' d e = d ∙ sym e

pub vacate : (rows sizes : List ℕ) (span : Span) (t : Seats) (a r : ℕ) (left left' : Seats) → left ≡ vacated_seats (block_by rows span a) (part_by sizes span) t a r
    → left' ≡ vacated_seats (block_by rows span a) (part_by sizes span) t a r → left ≡ left'
vacate rows sizes span t a r left left' d e = d ∙ sym e

pub seat : (rows sizes : List ℕ) (span : Span) (w : Rows) (a n : ℕ) (run : List ℕ) (left left' : Rows) → left ≡ seated_rows (block_by rows span a) (part_by sizes span) w a n run
    → left' ≡ seated_rows (block_by rows span a) (part_by sizes span) w a n run → left ≡ left'
seat rows sizes span w a n run left left' d e = d ∙ sym e
