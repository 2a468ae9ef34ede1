-- The contracts determine the number that a call answers, its four numbers and all that it leaves: no second result fits. One instance a function, under its name.
-- Assumes nothing.
use Prim.Native.Nat.{ℕ}
use mathlib.Core.List.{List}
use Rattle.store_tables.specs.Store.{Store}
use Rattle.store_spawn_at.specs.SpawnAt.{spawning_at}
use Rattle.store_insert.specs.Insert.{inserting}
use Rattle.store_remove.specs.Remove.{removing}
use Rattle.store_flush.specs.Flush.{flushing}
use Rattle.crossing.proofs.Sole.{PassedAny, passed_any}
use Rattle.exports_store.proofs.Determined.{PassedStore, passed_store_one}

pub verdict_store_spawn_at : (s : Store) (bits archetype : ℕ) (run : List ℕ) → PassedStore (spawning_at s bits archetype run) s
verdict_store_spawn_at s bits archetype run = passed_store_one (spawning_at s bits archetype run) s

pub verdict_store_insert : (s : Store) (bits kind : ℕ) (value : List ℕ) → PassedAny (inserting s bits kind value) s
verdict_store_insert s bits kind value = passed_any (inserting s bits kind value) s

pub verdict_store_remove : (s : Store) (bits kind : ℕ) → PassedAny (removing s bits kind) s
verdict_store_remove s bits kind = passed_any (removing s bits kind) s

pub verdict_store_flush : (s : Store) → PassedStore (flushing s) s
verdict_store_flush s = passed_store_one (flushing s) s
