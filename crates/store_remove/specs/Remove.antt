-- Remove a component: the row moves to the target, without that component.
use Prim.{Unit}
use Rattle.std.specs.Prelude.{ℕ, false, Option, Some, None}
use Rattle.refusal.specs.Table.{Answer, refused, ◌or_else◌}
use Rattle.handle.specs.OnBits.{on_bits}
use Rattle.decl.specs.Decl.{types_of}
use Rattle.decl.specs.Lookup.{column_of}
use Rattle.store_tables.specs.Store.{Store, entry}
use Rattle.store_tables.specs.Rows.{archetype_of, row_of}
use Rattle.store_tables.specs.Entities.{entity_rules}
use Rattle.store_moves.specs.Target.{without_type, target_of}
use Rattle.store_moves.specs.Moves.{run_without, moved_into}

-- 15: a component not held; else the row's types with that type taken are the target's
unfoldable pub removed_at : Store → ℕ → Option ℕ → Answer (Unit {0} × Store)
removed_at s n None = refused 15
removed_at s n (Some j) = moved_into s n (target_of s.decl (without_type j (types_of s.decl (archetype_of s n)))) (run_without s.decl s.rows (archetype_of s n) (row_of s n) j)

unfoldable pub removed : Store → ℕ → ℕ → ℕ → Answer (Unit {0} × Store)
removed s t generation n = entity_rules s generation n or_else removed_at s n (column_of (types_of s.decl (archetype_of s n)) t)

unfoldable pub removing : Store → ℕ → ℕ → Answer (Unit {0} × Store)
removing s bits t = on_bits (entry s false) bits (removed s t)
