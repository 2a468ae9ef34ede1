-- Despawn of sound tables.
-- Assumes nothing.
use Prim.{Unit}
use Prim.Native.Nat.{ℕ}
use mathlib.Core.Path.{◌≡◌, ◌∙◌}
use Rattle.refusal.specs.Table.{granted}
use Rattle.id_tables.specs.Ids.{Ids}
use Rattle.ids.specs.Free.{freed_ids}
use Rattle.ids.proofs.Passing.{FreeOk}
use Rattle.ids.proofs.Laws.{free_leaves}
use Rattle.store_tables.specs.Store.{Store}
use Rattle.store_tables.specs.Rows.{archetype_of, row_of, vacated}
use Rattle.store_despawn.specs.Despawn.{without_entity, despawning}
use Rattle.store_despawn.proofs.Laws.{DespawnOk}
use Rattle.store_despawn.proofs.Granting.{despawning_parts}
use Rattle.soundness.specs.Sound.{Lives, Sound}
use Rattle.soundness.proofs.Meaning.{live_lives}
use Rattle.soundness.proofs.Keeping.{free_sound, free_lives}
use Rattle.store_soundness.proofs.Seated.{seated_as}
use Rattle.store_soundness.proofs.Bridge.{sound_entered, seated_sound}
use Rattle.store_soundness.proofs.Leaving.{vacant, vacant_ids, vacant_lives, lives_vacant, vacant_ready, vacant_seated, vacant_store}

module _ {s : Store} (sound : Sound s) {g n : ℕ} (k : DespawnOk s g n) where
  lived : Lives s.ids n
  lived = (live_lives s.ids sound.ids g n k.lives).0

  abbrev vac : Ids
  vac = (vacated s (archetype_of s n) (row_of s n)).ids

  pub can_free : FreeOk (vacated s (archetype_of s n) (row_of s n)).ids g n
  can_free =
      let v = vacant sound lived in
      record { ok = v.ok; is_flushed = rw v.head_kept k.is_flushed; lives = v.live_kept g n ∙ k.lives; some_live = rw v.head_kept k.some_live }

  -- who lives then
  pub ended_lives : (m : ℕ) → Lives s.ids m × (m ≡ n → ⊥) → Lives (freed_ids vac g n) m
  ended_lives m p = (free_lives (vacant_ids sound lived) can_free m).1 (vacant_lives sound lived m p.0, p.1)

  pub lives_ended : (m : ℕ) → Lives (freed_ids vac g n) m → Lives s.ids m × (m ≡ n → ⊥)
  lives_ended m p = let q = (free_lives (vacant_ids sound lived) can_free m).0 p in (lives_vacant sound lived m q.0, q.1)

  pub ended_sound : Sound (without_entity s g n)
  ended_sound =
      rw (vacant_store sound lived (freed_ids vac g n))
      (seated_sound s.decl (freed_ids vac g n) _ s.words (free_sound (vacant_ids sound lived) can_free) (vacant_ready sound lived) (sound_entered sound).words_long
      (seated_as ended_lives lives_ended
      (vacant_seated sound lived (freed_ids vac g n) (λ m p ne. ((free_leaves vac g n can_free).others m ne).place_kept (vacant_lives sound lived m p).0))))

pub despawn_kept : (s : Store) (bits : ℕ) {x : Unit {0} × Store} → Sound s → granted x ≡ despawning s bits → Sound x.1
despawn_kept s bits sound e =
    let p = despawning_parts s bits e in
    rw p.3 (ended_sound sound p.2)
