-- What the tests of a despawn find, and how its steps hand it on.
use Rattle.std.specs.Prelude.{ℕ, ◌≡◌, List, Result, Ok, Err}
use Rattle.refusal.specs.Number.{number_of}
use Rattle.refusal.specs.Table.{Answer, granted, refused, ◌otherwise◌, answer_of, Did}
use Rattle.refusal.specs.declared.Refusal.{Refusal}
use Rattle.handle.specs.Bits.{generation_in, number_in}
use Rattle.handle.specs.declared.Place.{Place}
use Rattle.id_tables.specs.Ids.{Ids, ids_of, place_at}
use Rattle.id_tables.specs.declared.head.Head.{Head}
use Rattle.ids.specs.Free.{freeing}
use Rattle.decl.specs.Places.{span_of}
use Rattle.decl.specs.declared.Span.{Span}
use Rattle.row_step.specs.Tables.{Rows}
use Rattle.store_steps.specs.Seats.{Seats}
use Rattle.store_tables.specs.Store.{Store}
use Rattle.store_tables.specs.Rows.{archetype_of}
use Rattle.store_tables.specs.Kept.{Entered}
use Rattle.store_despawn.specs.Despawn.{despawn_rules, despawning}

-- what the tests of a despawn find: the part of the tables that the row's archetype has, and the row's place
unfoldable pub leaving : Store → ℕ → ℕ → Answer (Span × Place)
leaving s generation n = despawn_rules s generation n otherwise (span_of s.decl (archetype_of s n), place_at s.ids n)

-- and of a handle's bits: why it is refused, or the row where it is not
unfoldable pub Finds : Store → ℕ → Result (Span × Place) Refusal → Type 0
Finds s bits (Ok found) = Entered s × (generation_in bits ≡ 0 → ⊥) × (granted found ≡ leaving s (generation_in bits) (number_in bits))
Finds s bits (Err r) = despawning s bits ≡ refused (number_of r)

-- the steps on any tables: in the tables t that the row has left, the handle is freed; what that said, and what is left then
pub record Leaves (t : Seats) (head : Head) (generations pending : List ℕ) (bits : ℕ) (said : Result Place Refusal) (i : Ids) (w : Rows) : Type 0 where
  pub frees : Did (freeing (ids_of head generations t.archetypes t.indices pending) bits) (ids_of head generations t.archetypes t.indices pending) (answer_of said) i
  pub rows_are : w ≡ t.rows
