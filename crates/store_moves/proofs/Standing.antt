-- What a row that has moved leaves, for callers that do not open the rule.
-- Assumes nothing.
use Prim.Native.Nat.{ℕ}
use mathlib.Core.Path.{◌≡◌, refl}
use mathlib.Core.List.{List}
use lib.ListN.{take}
use Rattle.handle.specs.Bits.{place_of}
use Rattle.id_tables.specs.Ids.{placed}
use Rattle.decl.specs.Decl.{Decl, types_of, sizes_of, size_of}
use Rattle.cells.specs.Line.{width, row_bytes}
use Rattle.row_step.specs.Tables.{Rows, count_of, line_in}
use Rattle.column_entry.specs.Entry.{block_in}
use Rattle.store_tables.specs.Store.{Store, with_ids}
use Rattle.store_tables.specs.Rows.{archetype_of, row_of, seated, vacated}
use Rattle.store_moves.specs.Lists.{put_in, taken_out}
use Rattle.store_moves.specs.Target.{types_before}
use Rattle.store_moves.specs.Moves.{row_run, run_start, run_with, run_without, row_moved, moved_to}

pub moved_to_lem : (s : Store) (n b : ℕ) (run : List ℕ)
    → moved_to s n b run
    ≡ with_ids (vacated (seated s b n run) (archetype_of s n) (row_of s n)) (placed (vacated (seated s b n run) (archetype_of s n) (row_of s n)).ids n (place_of b (count_of s.rows b)))
unfolding moved_to row_moved
moved_to_lem s n b run = refl

-- the runs of bytes: the row's own with the value put in, or with a column taken out
module _ (d : Decl) (w : Rows) (a r : ℕ) where
  pub run_with_lem : (t : ℕ) (value : List ℕ)
      → run_with d w a r t value ≡ put_in (width (take (types_before t (types_of d a)) (sizes_of d a))) value (row_bytes w.bytes (line_in (block_in d a) r) (sizes_of d a))
  unfolding run_with row_run run_start
  run_with_lem t value = refl

  pub run_without_lem : (j : ℕ) → run_without d w a r j ≡ taken_out (width (take j (sizes_of d a))) (size_of d a j) (row_bytes w.bytes (line_in (block_in d a) r) (sizes_of d a))
  unfolding run_without row_run run_start
  run_without_lem j = refl
