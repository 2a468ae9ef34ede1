-- Tables that meet what the demand asks: fresh ones, and ones that calls have reached, in which one number is live and one pending.
-- Computes the rules on these tables.
-- Assumes nothing.
use Prim.{tt}
use Prim.Native.Nat.{ℕ, zero, suc}
use native.Mathlib.Omega.{arith}
use mathlib.Core.Path.{◌≡◌, refl}
use mathlib.Core.List.{List, [], ◌∷◌}
use lib.ListN.{get_or, replicate}
use Rattle.refusal.specs.Table.{◌or_else◌}
use Rattle.handle.specs.Bits.{MAX, bits_of}
use Rattle.handle.specs.OnBits.{on_bits}
use Rattle.borrow_word.specs.Slice.{any_held}
use Rattle.id_tables.specs.declared.head.Head.{Head}
use Rattle.id_tables.specs.Head.{flushed, flushed_head, head_rules}
use Rattle.id_tables.specs.Ids.{ids_of, capacity_rules, length_rules, damaged_in, live_in}
use Rattle.decl.specs.Decl.{decl_of, first_row, first_column, types_of, sizes_of}
use Rattle.decl.specs.Lists.{sum, first_of, part_of, any_above, rising, same, any_below, any_pair}
use Rattle.decl.specs.Places.{row_width, base_of}
use Rattle.decl.specs.Rules.{shape_rules, two_sizes, column_rules, decl_rules}
use Rattle.cells.specs.Cell.{cell, put, copies, copied, written}
use Rattle.cells.specs.Cell.{part_of as cellPart}
use Rattle.cells.specs.Line.{past_of, cell_at, carried, transferred}
use Rattle.row_step.specs.Tables.{tables_of, appended, removed}
use Rattle.column_entry.specs.Entry.{lengths_for, table_rules, is_over, count_rules}
use Rattle.column_entry.specs.Entry.{length_rules as rowLengthRules}
use Rattle.store_steps.specs.Seats.{seated_rows}
use Rattle.store_tables.specs.Store.{Store, store_of, lent_rules, entry}
use Rattle.store_tables.specs.Rows.{owns, moved_damaged, vacated}
use Rattle.store_tables.specs.Run.{run_wrong}
use Rattle.store_spawn.specs.Spawn.{spawn_rules, spawning}
use Rattle.store_despawn.specs.Despawn.{despawn_rules, despawned, despawning}
use Rattle.soundness.specs.Sound.{Sound}
use Rattle.soundness.proofs.Starting.{fresh_sound}
use Rattle.store_soundness.proofs.Spawn.{spawn_kept}
use Rattle.store_soundness.proofs.Despawn.{despawn_kept}
use Rattle.demand_three.specs.Steps.{single, batch, lookup}
use Rattle.demand_three.specs.Demand.{Ready, Demand}
use Rattle.demand_three.proofs.Meeting.{third_demand}

-- Four numbers; archetype 0 with four rows, and archetype 1 with two rows of one component of two bytes. The store by its head,
-- generations, archetypes, indices, pending list, row numbers, row counts and bytes.
abbrev tables : Head → List ℕ → List ℕ → List ℕ → List ℕ → List ℕ → List ℕ → List ℕ → Store
tables h g a x p numbers counts bytes = store_of (decl_of (4 ∷ 2 ∷ []) (0 ∷ 1 ∷ []) (7 ∷ []) (2 ∷ [])) (ids_of h g a x p) (tables_of numbers counts bytes) (0 ∷ [])

abbrev fresh : Store
fresh = tables (flushed_head 0 0 0) (0 ∷ 0 ∷ 0 ∷ 0 ∷ []) (0 ∷ 0 ∷ 0 ∷ 0 ∷ []) (0 ∷ 0 ∷ 0 ∷ 0 ∷ []) (0 ∷ 0 ∷ 0 ∷ 0 ∷ []) (0 ∷ 0 ∷ 0 ∷ 0 ∷ 0 ∷ 0 ∷ []) (0 ∷ 0 ∷ []) (0 ∷ 0 ∷ 0 ∷ 0 ∷ [])

-- after a spawn into archetype 0,
abbrev one_live : Store
one_live = tables (flushed_head 1 0 1) (1 ∷ 0 ∷ 0 ∷ 0 ∷ []) (0 ∷ 0 ∷ 0 ∷ 0 ∷ []) (0 ∷ 0 ∷ 0 ∷ 0 ∷ []) (0 ∷ 0 ∷ 0 ∷ 0 ∷ []) (0 ∷ 0 ∷ 0 ∷ 0 ∷ 0 ∷ 0 ∷ []) (1 ∷ 0 ∷ []) (0 ∷ 0 ∷ 0 ∷ 0 ∷ [])

-- one into archetype 1,
abbrev two_live : Store
two_live = tables (flushed_head 2 0 2) (1 ∷ 1 ∷ 0 ∷ 0 ∷ []) (0 ∷ 1 ∷ 0 ∷ 0 ∷ []) (0 ∷ 0 ∷ 0 ∷ 0 ∷ []) (0 ∷ 0 ∷ 0 ∷ 0 ∷ []) (0 ∷ 0 ∷ 0 ∷ 0 ∷ 1 ∷ 0 ∷ []) (1 ∷ 1 ∷ []) (5 ∷ 6 ∷ 0 ∷ 0 ∷ [])

-- and a despawn of the first: number 0 is pending at generation 2, and number 1 is live
abbrev reached : Store
reached = tables (flushed_head 2 1 1) (2 ∷ 1 ∷ 0 ∷ 0 ∷ []) (0 ∷ 1 ∷ 0 ∷ 0 ∷ []) (MAX ∷ 0 ∷ 0 ∷ 0 ∷ []) (0 ∷ 0 ∷ 0 ∷ 0 ∷ []) (0 ∷ 0 ∷ 0 ∷ 0 ∷ 1 ∷ 0 ∷ []) (0 ∷ 1 ∷ []) (5 ∷ 6 ∷ 0 ∷ 0 ∷ [])

no_rows : (a : ℕ) → ◌≡◌ {A = ℕ} (get_or (0 ∷ 0 ∷ []) a 0) 0
no_rows zero = refl
no_rows (suc zero) = refl
no_rows (suc (suc a)) = refl

fresh_is_sound : Sound fresh
unfolding entry ◌or_else◌ capacity_rules length_rules head_rules table_rules rowLengthRules lengths_for decl_rules shape_rules column_rules two_sizes lent_rules count_rules is_over first_row first_column types_of sizes_of sum first_of part_of any_above rising same any_below any_pair row_width base_of
fresh_is_sound = fresh_sound refl refl no_rows

one_sound : Sound one_live
unfolding spawning spawn_rules run_wrong any_held flushed damaged_in seated_rows appended transferred past_of cell_at cell put copies copied written entry ◌or_else◌ capacity_rules length_rules head_rules table_rules rowLengthRules lengths_for decl_rules shape_rules column_rules two_sizes lent_rules count_rules is_over first_row first_column types_of sizes_of sum first_of part_of any_above rising same any_below any_pair row_width base_of
one_sound = spawn_kept fresh 0 [] {x = (bits_of 1 0, one_live)} fresh_is_sound refl

two_sound : Sound two_live
unfolding spawning spawn_rules run_wrong any_held flushed damaged_in seated_rows appended transferred past_of cell_at cell put copies copied written entry ◌or_else◌ capacity_rules length_rules head_rules table_rules rowLengthRules lengths_for decl_rules shape_rules column_rules two_sizes lent_rules count_rules is_over first_row first_column types_of sizes_of sum first_of part_of any_above rising same any_below any_pair row_width base_of cellPart
two_sound = spawn_kept one_live 1 (5 ∷ 6 ∷ []) {x = (bits_of 1 1, two_live)} one_sound refl

reached_sound : Sound reached
unfolding despawning despawned despawn_rules on_bits live_in owns moved_damaged vacated removed carried any_held flushed cell_at cell put copies copied written cellPart past_of entry ◌or_else◌ capacity_rules length_rules head_rules table_rules rowLengthRules lengths_for decl_rules shape_rules column_rules two_sizes lent_rules count_rules is_over first_row first_column types_of sizes_of sum first_of part_of any_above rising same any_below any_pair row_width base_of
reached_sound = despawn_kept two_live (bits_of 1 0) {x = (tt, reached)} two_sound refl

-- all four numbers of the fresh tables
fresh_ready : Ready fresh 4
unfolding flushed any_held
fresh_ready = record { sound = fresh_is_sound; nothing_reserved = refl; no_borrow = refl; numbers = omega arith; rows = omega arith }

pub all_four : Demand fresh 4 (batch 3 (replicate 5 0) ∷ lookup ∷ single ∷ [])
all_four = third_demand fresh 4 fresh_ready (batch 3 (replicate 5 0) ∷ lookup ∷ single ∷ []) refl (omega arith)

-- the one that is pending, and two new ones
reached_ready : Ready reached 3
unfolding flushed any_held
reached_ready = record { sound = reached_sound; nothing_reserved = refl; no_borrow = refl; numbers = omega arith; rows = omega arith }

pub one_and_two : Demand reached 3 (single ∷ lookup ∷ batch 2 (replicate 2 0) ∷ [])
one_and_two = third_demand reached 3 reached_ready (single ∷ lookup ∷ batch 2 (replicate 2 0) ∷ []) refl (omega arith)
