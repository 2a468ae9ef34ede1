-- An archetype's part of the tables by its span, and what the steps leave where there is such a row, and where a row is unused.
-- Assumes nothing.
use Prim.Native.Nat.{ℕ, ◌+◌, ◌-◌, ◌<◌, ◌≤◌}
use native.Mathlib.Omega.{arith}
use mathlib.Core.Path.{◌≡◌, refl}
use mathlib.Core.Bool.{true, false}
use mathlib.Core.List.{List}
use lib.Dec.{eqb}
use lib.ListN.{set, take, drop}
use borrow.Author.Tests.{lt-ltb}
use Rattle.decl.specs.Decl.{Decl, width_of, rows_of, first_row, first_column, types_of, sizes_of}
use Rattle.decl.specs.Places.{base_of, span_of}
use Rattle.decl.specs.declared.Span.{Span}
use Rattle.decl.proofs.Lending.{types_lent, sizes_lent}
use Rattle.row_step.specs.declared.Block.{Block}
use Rattle.row_step.specs.Tables.{Rows, block_of, tables_of, number_in, count_of, last_of, appended, removed}
use Rattle.row_step.proofs.Held.{row_removed_lem, moved_none, moved_some}
use Rattle.store_steps.specs.Parts.{block_by, part_by}
use Rattle.store_steps.specs.Seats.{Seats, seats_of, vacated_seats, filled, seated_rows}

-- an archetype's part of a table of columns, as a cut
pub part_cut : (xs : List ℕ) (span : Span) → part_by xs span ≡ take span.columns (drop span.column xs)
unfolding part_by
part_cut xs span = refl

module _ (d : Decl) (a : ℕ) (span : Span) (p : span ≡ span_of d a) where
  pub block_by_lem : block_by d.rows span a ≡ block_of (first_row d a) (rows_of d a) (base_of d a)
  unfolding block_by
  block_by_lem = rw p

  past_first : (first_column d a + width_of d a) - first_column d a ≡ width_of d a
  past_first = omega arith

  pub types_by : part_by d.types span ≡ types_of d a
  unfolding part_by
  types_by = rw p (rw past_first at (types_lent d a (first_column d a) (first_column d a + width_of d a) refl refl))

  pub sizes_by : part_by d.sizes span ≡ sizes_of d a
  unfolding part_by
  sizes_by = rw p (rw past_first at (sizes_lent d a (first_column d a) (first_column d a + width_of d a) refl refl))

module _ (k : Block) (sizes : List ℕ) (t : Seats) (a r : ℕ) (here : r < count_of t.rows a) (used : count_of t.rows a ≤ k.rows) where
  -- of the last row nothing is learnt; of another, the last row's number learns its place
  pub left_last : eqb r (last_of t.rows a) ≡ true → vacated_seats k sizes t a r ≡ seats_of t.archetypes t.indices (removed k sizes t.rows a r)
  unfolding vacated_seats
  left_last e = rw (row_removed_lem k sizes t.rows a r here used, moved_none k t.rows a r e)

  pub left_other : eqb r (last_of t.rows a) ≡ false
      → vacated_seats k sizes t a r ≡ seats_of (set t.archetypes (number_in k t.rows (last_of t.rows a)) a) (set t.indices (number_in k t.rows (last_of t.rows a)) r) (removed k sizes t.rows a r)
  unfolding vacated_seats
  left_other e = rw (row_removed_lem k sizes t.rows a r here used, moved_some k t.rows a r e)

pub seated_rows_lem : (k : Block) (sizes : List ℕ) (w : Rows) (a n : ℕ) (run : List ℕ) → count_of w a < k.rows
    → seated_rows k sizes w a n run ≡ appended k (tables_of w.numbers w.counts (filled k sizes w a run)) a n
unfolding seated_rows
seated_rows_lem k sizes w a n run h = rw (lt-ltb _ _ h)
