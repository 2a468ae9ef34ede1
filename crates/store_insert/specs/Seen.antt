-- What the tests of an insert find.
use Rattle.std.specs.Prelude.{ℕ, true, false, ◌≡◌, List, [], ◌∷◌, length, Some, None, Result, Ok, Err}
use Rattle.std.specs.Prelude as prelude
use Rattle.std.proofs.Math.Option.{Option, none, some}
use Rattle.refusal.specs.Number.{number_of}
use Rattle.refusal.specs.Table.{◌when◌, Answer, granted, refused, ◌otherwise◌}
use Rattle.refusal.specs.declared.Refusal.{Refusal}
use Rattle.handle.specs.declared.Number.{Number}
use Rattle.handle.specs.declared.Place.{Place}
use Rattle.borrow_word.specs.Slice.{any_held}
use Rattle.id_tables.specs.Ids.{place_at}
use Rattle.decl.specs.Decl.{types_of}
use Rattle.decl.specs.Lookup.{column_of}
use Rattle.decl.specs.Places.{span_of}
use Rattle.decl.specs.declared.Span.{Span}
use Rattle.column_entry.specs.Entry.{wrong_size}
use Rattle.store_tables.specs.Store.{Store}
use Rattle.store_tables.specs.Rows.{archetype_of, owns}
use Rattle.store_tables.specs.Kept.{Entered}
use Rattle.store_moves.specs.Target.{types_before, with_type, target_of}
use Rattle.store_moves.specs.Moves.{move_rules}
use Rattle.store_insert.specs.declared.Way.{Way}
use Rattle.store_insert.specs.declared.Way.TheVariants.{Over, Into}
use Rattle.store_insert.specs.Insert.{inserted_at, inserting}

-- the column of a component that is held; or the target, and the type's column there
unfoldable pub way_into : Store → ℕ → ℕ → Option ℕ → Answer Way
way_into s n j none = refused 14
way_into s n j (some b) = move_rules s n b otherwise Into j b

unfoldable pub way_for : Store → ℕ → ℕ → prelude.Option ℕ → Answer Way
way_for s n t (Some j) = 8 when any_held s.words ∷ [] otherwise Over j
way_for s n t None =
    way_into s n (types_before t (types_of s.decl (archetype_of s n))) (target_of s.decl (with_type t (types_of s.decl (archetype_of s n))))

-- the row of the entity of an insert past the first tests: it is its own, and what is left is the rule of a row
pub record Placed (s : Store) (bits t : ℕ) (value : List ℕ) (span : Span) (place : Place) (n : ℕ) : Type 0 where
  pub entered : Entered s
  pub span_is : span ≡ span_of s.decl (archetype_of s n)
  pub place_is : place ≡ place_at s.ids n
  pub own : owns s n ≡ true
  pub right : wrong_size s.decl.types s.decl.sizes t (length value) ≡ false
  pub rule : inserting s bits t value ≡ inserted_at s n t value (column_of (types_of s.decl (archetype_of s n)) t)

-- that row, and how the component comes in; or the insert is refused
abbrev pub Finds : Store → ℕ → ℕ → List ℕ → Result (Span × Place × Number × Way) Refusal → Type 0
Finds s bits t value (Ok f) = Placed s bits t value f.0 f.1 f.2.0 × (granted f.3 ≡ way_for s f.2.0 t (column_of (types_of s.decl (archetype_of s f.2.0)) t))
Finds s bits t value (Err r) = inserting s bits t value ≡ refused (number_of r)
