-- The contracts determine the number that a call answers, its four numbers and all that it leaves: no second result fits. One instance a function, under its name.
-- Assumes nothing.
use Prim.Native.Nat.{ℕ}
use mathlib.Core.List.{List}
use Rattle.decl.specs.Decl.{Decl}
use Rattle.decl.specs.Lookup.{looked_up}
use Rattle.row_step.specs.Tables.{Rows}
use Rattle.columns.specs.Calls.{allocated_in, removed_in, moved_out, put_in, got_in, ids_in}
use Rattle.crossing.specs.Answers.{number_four, maybe_four, part_four}
use Rattle.crossing.proofs.Sole.{Only, only, CrossedAny, crossed_any, PassedAny, passed_any}

pub verdict_columns_allocate : (d : Decl) (w : Rows) (archetype : ℕ) (number : ℕ) → CrossedAny number_four (allocated_in d w archetype number) w
verdict_columns_allocate d w archetype number = crossed_any number_four (allocated_in d w archetype number) w

pub verdict_columns_remove : (d : Decl) (w : Rows) (archetype : ℕ) (row : ℕ) → CrossedAny maybe_four (removed_in d w archetype row) w
verdict_columns_remove d w archetype row = crossed_any maybe_four (removed_in d w archetype row) w

pub verdict_columns_move_out : (d : Decl) (w : Rows) (taken : List ℕ) (archetype : ℕ) (row : ℕ) → CrossedAny maybe_four (moved_out d w taken archetype row) (w, taken)
verdict_columns_move_out d w taken archetype row = crossed_any maybe_four (moved_out d w taken archetype row) (w, taken)

pub verdict_columns_put : (d : Decl) (w : Rows) (archetype : ℕ) (row : ℕ) (kind : ℕ) (value : List ℕ) → PassedAny (put_in d w archetype row kind value) w
verdict_columns_put d w archetype row kind value = passed_any (put_in d w archetype row kind value) w

pub verdict_columns_get : (d : Decl) (w : Rows) (archetype : ℕ) (row : ℕ) (kind : ℕ) → Only part_four (got_in d w archetype row kind)
verdict_columns_get d w archetype row kind = only part_four (got_in d w archetype row kind)

pub verdict_columns_ids : (d : Decl) (w : Rows) (archetype : ℕ) → Only part_four (ids_in d w archetype)
verdict_columns_ids d w archetype = only part_four (ids_in d w archetype)

pub verdict_columns_lookup : (d : Decl) (archetype : ℕ) (kind : ℕ) → Only number_four (looked_up d archetype kind)
verdict_columns_lookup d archetype kind = only number_four (looked_up d archetype kind)
