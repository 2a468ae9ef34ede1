-- When despawn is granted, and what it leaves then, for callers that do not open its rule.
-- Assumes nothing.
use Prim.{Unit, tt}
use Prim.Native.Nat.{ℕ}
use mathlib.Core.Path.{◌≡◌, refl, ◌∙◌}
use mathlib.Core.Bool.{false}
use Rattle.refusal.specs.Table.{granted}
use Rattle.refusal.specs.Laws.{passed_all, past}
use Rattle.handle.specs.Bits.{generation_in, number_in}
use Rattle.handle.specs.OnBits.{on_rest, on_granted}
use Rattle.store_tables.specs.Store.{Store, entry}
use Rattle.store_tables.specs.Kept.{Entered}
use Rattle.store_tables.proofs.Entering.{entered}
use Rattle.store_tables.proofs.Passing.{entered_passes}
use Rattle.store_despawn.specs.Despawn.{despawn_rules, without_entity, ended, despawned, despawning}
use Rattle.store_despawn.proofs.Laws.{DespawnOk, despawn_ok, ok_despawn}

module _ (s : Store) (bits : ℕ) where
  abbrev g : ℕ
  g = generation_in bits

  abbrev n : ℕ
  n = number_in bits

  pub despawning_parts : {x : Unit {0} × Store} → granted x ≡ despawning s bits
      → Entered s × (generation_in bits ≡ 0 → ⊥) × DespawnOk s (generation_in bits) (number_in bits) × (x ≡ (tt, without_entity s (generation_in bits) (number_in bits)))
  unfolding despawning despawned
  despawning_parts e =
      let p = on_granted (entry s false) bits (despawned s) e in
      let q = passed_all (despawn_rules s g n) (ended s g n) p.2 in
      (entered s false p.0, p.1, despawn_ok s g n q.0, cc)

  pub despawning_at : Entered s → (generation_in bits ≡ 0 → ⊥) → DespawnOk s (generation_in bits) (number_in bits)
      → despawning s bits ≡ granted (tt, without_entity s (generation_in bits) (number_in bits))
  unfolding despawning despawned
  despawning_at e nz k =
      on_rest (entry s false) bits (despawned s) (entered_passes s false e refl) nz ∙ past (despawn_rules s g n) _ (ok_despawn s g n k)
