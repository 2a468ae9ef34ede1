-- What the tests of a remove find.
use Rattle.std.specs.Prelude.{ℕ, true, ◌≡◌, Some, None, Result, Ok, Err}
use Rattle.std.specs.Prelude as prelude
use Rattle.std.proofs.Math.Option.{Option, none, some}
use Rattle.refusal.specs.Number.{number_of}
use Rattle.refusal.specs.Table.{Answer, granted, refused, ◌otherwise◌}
use Rattle.refusal.specs.declared.Refusal.{Refusal}
use Rattle.handle.specs.declared.Number.{Number}
use Rattle.handle.specs.declared.Place.{Place}
use Rattle.id_tables.specs.Ids.{place_at}
use Rattle.decl.specs.Decl.{types_of}
use Rattle.decl.specs.Lookup.{column_of}
use Rattle.decl.specs.Places.{span_of}
use Rattle.decl.specs.declared.Span.{Span}
use Rattle.store_tables.specs.Store.{Store}
use Rattle.store_tables.specs.Rows.{archetype_of, owns}
use Rattle.store_tables.specs.Kept.{Entered}
use Rattle.store_moves.specs.Target.{without_type, target_of}
use Rattle.store_moves.specs.Moves.{move_rules}
use Rattle.store_remove.specs.declared.Way.{Way}
use Rattle.store_remove.specs.Remove.{removed_at, removing}

-- the component's column, and the target
unfoldable pub way_into : Store → ℕ → ℕ → Option ℕ → Answer Way
way_into s n j none = refused 14
way_into s n j (some b) = move_rules s n b otherwise record { column = j; target = b }

unfoldable pub way_for : Store → ℕ → prelude.Option ℕ → Answer Way
way_for s n None = refused 15
way_for s n (Some j) = way_into s n j (target_of s.decl (without_type j (types_of s.decl (archetype_of s n))))

-- the row of the entity of a remove past the first tests: it is its own, and what is left is the rule of a row
pub record Placed (s : Store) (bits t : ℕ) (span : Span) (place : Place) (n : ℕ) : Type 0 where
  pub entered : Entered s
  pub span_is : span ≡ span_of s.decl (archetype_of s n)
  pub place_is : place ≡ place_at s.ids n
  pub own : owns s n ≡ true
  pub rule : removing s bits t ≡ removed_at s n (column_of (types_of s.decl (archetype_of s n)) t)

-- that row, and how the component goes; or the remove is refused
abbrev pub Finds : Store → ℕ → ℕ → Result (Span × Place × Number × Way) Refusal → Type 0
Finds s bits t (Ok f) = Placed s bits t f.0 f.1 f.2.0 × (granted f.3 ≡ way_for s f.2.0 (column_of (types_of s.decl (archetype_of s f.2.0)) t))
Finds s bits t (Err r) = removing s bits t ≡ refused (number_of r)
