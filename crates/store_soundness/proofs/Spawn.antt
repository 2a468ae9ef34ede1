-- Spawn into sound tables.
-- Assumes nothing.
use Prim.Native.Nat.{ℕ}
use mathlib.Core.Path.{◌≡◌, refl}
use mathlib.Core.List.{List}
use Rattle.refusal.specs.Table.{granted}
use Rattle.handle.specs.Bits.{place_of}
use Rattle.handle.specs.declared.Place.{Place}
use Rattle.ids.proofs.Passing.{AllocOk}
use Rattle.ids.proofs.Laws.{alloc_leaves}
use Rattle.row_step.specs.Tables.{count_of}
use Rattle.store_tables.specs.Store.{Store}
use Rattle.store_spawn.specs.Spawn.{next_number, next_ids, with_entity, spawning}
use Rattle.store_spawn.proofs.Laws.{SpawnOk, can_alloc}
use Rattle.store_spawn.proofs.Granting.{spawning_parts}
use Rattle.soundness.specs.Sound.{Lives, Sound}
use Rattle.soundness.proofs.Growing.{fresh_not_live}
use Rattle.soundness.proofs.Keeping.{alloc_fresh, alloc_sound, alloc_lives}
use Rattle.store_soundness.proofs.Seated.{seated_as}
use Rattle.store_soundness.proofs.Bridge.{sound_entered, sound_seated, seated_sound}
use Rattle.store_soundness.proofs.Taking.{taken_ready, taken_seated}

module _ {s : Store} (sound : Sound s) {a : ℕ} (k : SpawnOk s a) (run : List ℕ) where
  abbrev place : Place
  place = place_of a (count_of s.rows a)

  ok : AllocOk s.ids place
  ok = can_alloc s a (sound_entered sound) k

  -- the number did not live
  pub next_new : Lives s.ids (next_number s.ids) → ⊥
  next_new l = fresh_not_live sound.ids 0 1 _ ((alloc_fresh sound.ids ok _).1 refl) l

  pub spawned_sound : Sound (with_entity s a run)
  spawned_sound =
      seated_sound s.decl (next_ids s a).1 _ s.words (alloc_sound sound.ids ok)
      (taken_ready s.decl s.rows a (next_number s.ids) run (sound_entered sound).rows k.archetype_in k.row_unused)
      (sound_entered sound).words_long
      (seated_as (λ m. (alloc_lives sound.ids ok m).1) (λ m. (alloc_lives sound.ids ok m).0)
      (taken_seated s.decl s.rows a (next_number s.ids) run (sound_entered sound).rows k.archetype_in k.row_unused
      s.ids (next_ids s a).1 (Lives s.ids) (sound_seated sound) (alloc_leaves s.ids place ok).settled_now.place_is
      (λ m l. ((alloc_leaves s.ids place ok).settled_now.others m (λ e. next_new (rw e at l))).place_kept l.0)))

pub spawn_kept : (s : Store) (a : ℕ) (run : List ℕ) {x : ℕ × Store} → Sound s → granted x ≡ spawning s a run → Sound x.1
spawn_kept s a run sound e = let p = spawning_parts s a run e in rw p.3 (spawned_sound sound p.2 run)
