-- What the tests of a spawn find.
use Rattle.std.specs.Prelude.{ℕ, ◌≡◌, List, Result, Ok, Err}
use Rattle.refusal.specs.Number.{number_of}
use Rattle.refusal.specs.Table.{refused}
use Rattle.refusal.specs.declared.Refusal.{Refusal}
use Rattle.decl.specs.Places.{span_of}
use Rattle.decl.specs.declared.Span.{Span}
use Rattle.store_tables.specs.Store.{Store}
use Rattle.store_tables.specs.Kept.{Entered}
use Rattle.store_spawn.specs.Spawn.{Spawnable, spawned, spawning}

-- why it is refused, or the part of the tables that its archetype has where it is not
unfoldable pub Admits : Store → ℕ → List ℕ → Result Span Refusal → Type 0
Admits s a run (Ok span) = Entered s × Spawnable s a × (span ≡ span_of s.decl a) × (spawning s a run ≡ spawned s a run)
Admits s a run (Err r) = spawning s a run ≡ refused (number_of r)
