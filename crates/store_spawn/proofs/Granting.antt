-- When spawn is granted, and what it leaves then, for callers that do not open its rule.
-- Assumes nothing.
use Prim.Native.Nat.{ℕ}
use mathlib.Core.Path.{◌≡◌}
use mathlib.Core.List.{List, ◌++◌}
use lib.ListN.{length}
use Rattle.refusal.specs.Table.{granted}
use Rattle.refusal.specs.Laws.{passed_all, both}
use Rattle.decl.specs.Places.{row_width}
use Rattle.store_tables.specs.Store.{Store, entry}
use Rattle.store_tables.specs.Kept.{Entered}
use Rattle.store_tables.proofs.Entering.{entered, entered_right}
use Rattle.store_tables.proofs.Passing.{entered_passes}
use Rattle.store_tables.proofs.Running.{run_right, right_run}
use Rattle.store_tables.specs.Run.{run_wrong}
use Rattle.store_spawn.specs.Spawn.{next_ids, spawn_rules, with_entity, spawned, spawning}
use Rattle.store_spawn.proofs.Laws.{SpawnOk, spawn_ok, ok_spawn}
use Rattle.store_spawn.proofs.Taking.{then_grant}

module _ (s : Store) (a : ℕ) (run : List ℕ) where
  pub spawning_parts : {x : ℕ × Store} → granted x ≡ spawning s a run
      → Entered s × (length run ≡ row_width s.decl a) × SpawnOk s a × (x ≡ ((next_ids s a).0, with_entity s a run))
  unfolding spawning
  spawning_parts e =
      let p = passed_all (entry s (run_wrong s.decl a run) ++ spawn_rules s a) (spawned s a run) e in
      let b = both (entry s (run_wrong s.decl a run)) (spawn_rules s a) p.0 in
      let k = spawn_ok s a b.1 in
      (entered s _ b.0, right_run s.decl a run k.archetype_in (entered_right s _ b.0), k, cc)

  pub spawning_at : Entered s → length run ≡ row_width s.decl a → SpawnOk s a → spawning s a run ≡ granted ((next_ids s a).0, with_entity s a run)
  spawning_at e w k = then_grant s a run (entered_passes s _ e (run_right s.decl a run w)) (ok_spawn s a k)
