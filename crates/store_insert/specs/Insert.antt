-- Insert: a component of a type not held moves the row to the target with the value added; one of a type already held is overwritten.
use Prim.{Unit, tt}
use Rattle.std.specs.Prelude.{ℕ, List, [], ◌∷◌, length, Option, Some, None}
use Rattle.refusal.specs.Table.{◌when◌, Answer, ◌or_else◌, ◌otherwise◌}
use Rattle.handle.specs.OnBits.{on_bits}
use Rattle.borrow_word.specs.Slice.{any_held}
use Rattle.decl.specs.Decl.{types_of}
use Rattle.decl.specs.Places.{cell_start}
use Rattle.decl.specs.Lookup.{column_of}
use Rattle.cells.specs.Cell.{put}
use Rattle.row_step.specs.Tables.{tables_of}
use Rattle.column_entry.specs.Entry.{wrong_size}
use Rattle.store_tables.specs.Store.{Store, with_rows, entry}
use Rattle.store_tables.specs.Rows.{archetype_of, row_of}
use Rattle.store_tables.specs.Entities.{entity_rules}
use Rattle.store_moves.specs.Target.{with_type, target_of}
use Rattle.store_moves.specs.Moves.{run_with, moved_into}

-- the value in column j of number n's row
unfoldable pub overwritten : Store → ℕ → ℕ → List ℕ → Store
overwritten s n j value =
    with_rows s (tables_of s.rows.numbers s.rows.counts (put s.rows.bytes (cell_start s.decl (archetype_of s n) j (row_of s n)) value))

-- Insert of a type already held overwrites; else the row's types with that type added are the target's
unfoldable pub inserted_at : Store → ℕ → ℕ → List ℕ → Option ℕ → Answer (Unit {0} × Store)
inserted_at s n t value (Some j) = 8 when any_held s.words ∷ [] otherwise (tt, overwritten s n j value)
inserted_at s n t value None = moved_into s n (target_of s.decl (with_type t (types_of s.decl (archetype_of s n)))) (run_with s.decl s.rows (archetype_of s n) (row_of s n) t value)

unfoldable pub inserted : Store → ℕ → List ℕ → ℕ → ℕ → Answer (Unit {0} × Store)
inserted s t value generation n =
    entity_rules s generation n or_else inserted_at s n t value (column_of (types_of s.decl (archetype_of s n)) t)

-- 13: a value of another length than its type's, where that type is declared
unfoldable pub inserting : Store → ℕ → ℕ → List ℕ → Answer (Unit {0} × Store)
inserting s bits t value = on_bits (entry s (wrong_size s.decl.types s.decl.sizes t (length value))) bits (inserted s t value)
