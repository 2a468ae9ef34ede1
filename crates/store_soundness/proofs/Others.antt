-- A read by a handle that a call does not name gives what it gave.
-- Assumes nothing.
use Prim.Native.Nat.{ℕ}
use native.Mathlib.Omega.{arith}
use mathlib.Core.Path.{◌≡◌, refl, sym, ap, ◌∙◌, subst}
use mathlib.Core.Bool.{Bool, true, false}
use mathlib.Core.Logic.{⊎_elim}
use mathlib.Core.List.{List}
use Rattle.handle.specs.Bits.{place_of, bits_of, generation_in, number_in}
use Rattle.handle.specs.RoundTrip.{bits_back}
use Rattle.handle.specs.declared.Place.{Place}
use Rattle.id_tables.specs.Head.{flushed}
use Rattle.id_tables.specs.Ids.{Ids, generation_at, live}
use Rattle.id_tables.specs.Lookup.{reserved_new}
use Rattle.id_tables.proofs.Laws.{new_means}
use Rattle.id_tables.proofs.Meaning.{lives, flushed_new}
use Rattle.ids.specs.Free.{freed_ids}
use Rattle.ids.proofs.Laws.{alloc_number, alloc_generation, alloc_leaves, free_leaves}
use Rattle.ids.proofs.Leaving.{Settled, Released}
use Rattle.row_step.specs.Tables.{count_of}
use Rattle.row_step.proofs.Held.{same_or_not}
use Rattle.columns.specs.Calls.{removed_from}
use Rattle.store_tables.specs.Store.{Store}
use Rattle.store_tables.specs.Rows.{archetype_of, row_of, vacated}
use Rattle.store_spawn.specs.Spawn.{next_number, next_ids, with_entity}
use Rattle.store_spawn.proofs.Laws.{SpawnOk, can_alloc}
use Rattle.store_despawn.specs.Despawn.{without_entity}
use Rattle.store_despawn.proofs.Laws.{DespawnOk}
use Rattle.soundness.specs.Sound.{Lives, Sound}
use Rattle.soundness.proofs.Meaning.{live_lives}
use Rattle.store_soundness.specs.Reads.{read_bytes}
use Rattle.store_soundness.proofs.Bridge.{sound_entered, seat_of}
use Rattle.store_soundness.proofs.Leaving.{vacant, vacant_lives, vacant_store}
use Rattle.store_soundness.proofs.Reading.{Same, read_same}
use Rattle.store_soundness.proofs.Holding.{taken_same, vacant_same}
use Rattle.store_soundness.proofs.Spawn.{spawned_sound, next_new}
use Rattle.store_soundness.proofs.Despawn.{can_free, ended_sound}

pub not_so : (b : Bool) → (b ≡ true → ⊥) → b ≡ false
not_so true h = absurd (h refl)
not_so false h = refl

-- handles of one generation and one number are one
pub same_bits : (b c : ℕ) → generation_in b ≡ generation_in c → number_in b ≡ number_in c → b ≡ c
same_bits b c g n = sym (bits_back b) ∙ (λ i. bits_of (g i) (n i)) ∙ bits_back c

-- where nothing is reserved, no new number is
pub none_new : (i : Ids) (g n : ℕ) → flushed i.head ≡ true → reserved_new i.head g n ≡ false
none_new i g n f =
    not_so (reserved_new i.head g n) (λ e. let r = new_means i g n e in omega (arith, r.past_used, r.within, flushed_new i.head f))

-- Despawn: of any handle but the one that is despawned
module _ {s : Store} (sound : Sound s) (bits : ℕ) (k : DespawnOk s (generation_in bits) (number_in bits)) (other t : ℕ) (ne : other ≡ bits → ⊥) where
  abbrev g : ℕ
  g = generation_in bits

  abbrev n : ℕ
  n = number_in bits

  l : Lives s.ids n
  l = (live_lives s.ids sound.ids g n k.lives).0

  abbrev vac : Ids
  vac = (vacated s (archetype_of s n) (row_of s n)).ids

  freed : Released vac n g (freed_ids vac g n)
  freed = free_leaves vac g n (can_free sound k)

  live_kept : live (freed_ids vac g n) (generation_in other) (number_in other) ≡ live s.ids (generation_in other) (number_in other)
  live_kept =
      ⊎_elim
      (λ (e : number_in other ≡ n). rw e
      (freed.not_live (generation_in other)
      ∙ sym (not_so (live s.ids (generation_in other) n) (λ x. ne (same_bits other bits (sym (lives _ _ _ (generation_in other) n x).generation ∙ (lives _ _ _ g n k.lives).generation) e)))))
      (λ (d : number_in other ≡ n → ⊥). (freed.others (number_in other) d).live_kept (generation_in other) ∙ (vacant sound l).live_kept (generation_in other) (number_in other))
      (same_or_not (number_in other) n)

  same : live s.ids (generation_in other) (number_in other) ≡ true
      → Same s.decl s.ids (freed_ids vac g n) s.rows (removed_from s.decl s.rows (archetype_of s n) (row_of s n)) (number_in other)
  same x =
      let m = live_lives s.ids sound.ids (generation_in other) (number_in other) x in
      let d : number_in other ≡ n → ⊥ = λ e. ne (same_bits other bits (sym m.1 ∙ ap (generation_at s.ids) e ∙ (lives _ _ _ g n k.lives).generation) e) in
      vacant_same sound l (freed_ids vac g n) (number_in other) m.0 d ((freed.others (number_in other) d).place_kept (vacant_lives sound l (number_in other) m.0).0)

  pub despawn_others : read_bytes (without_entity s (generation_in bits) (number_in bits)) other t ≡ read_bytes s other t
  despawn_others =
      let q = vacant_store sound l (freed_ids vac g n) in
      subst (λ (z : Store). read_bytes z other t ≡ read_bytes s other t) (sym q)
      (read_same sound (subst Sound q (ended_sound sound k)) other t live_kept
      (none_new (freed_ids vac g n) (generation_in other) (number_in other) freed.is_flushed ∙ sym (none_new s.ids (generation_in other) (number_in other) k.is_flushed)) same)

-- Spawn: of any handle but the one that is given
module _ {s : Store} (sound : Sound s) {a : ℕ} (k : SpawnOk s a) (run : List ℕ) (other t : ℕ) (ne : other ≡ (next_ids s a).0 → ⊥) where
  abbrev place : Place
  place = place_of a (count_of s.rows a)

  abbrev left : Ids
  left = (next_ids s a).1

  given : Settled s.ids (alloc_number s.ids) (alloc_generation s.ids) place left
  given = (alloc_leaves s.ids place (can_alloc s a (sound_entered sound) k)).settled_now

  -- the handle that is given, by generation and number
  not_given : generation_in other ≡ alloc_generation s.ids → number_in other ≡ alloc_number s.ids → ⊥
  not_given x y = ne (sym (bits_back other) ∙ (λ i. bits_of (x i) (y i)) ∙ sym (alloc_leaves s.ids place (can_alloc s a (sound_entered sound) k)).bits_are)

  spawn_live : live left (generation_in other) (number_in other) ≡ live s.ids (generation_in other) (number_in other)
  spawn_live =
      ⊎_elim
      (λ (e : number_in other ≡ alloc_number s.ids).
      not_so _ (λ x. not_given (sym (lives _ _ _ (generation_in other) (number_in other) x).generation ∙ ap (generation_at left) e ∙ given.generation_is) e)
      ∙ sym (rw e ((alloc_leaves s.ids place (can_alloc s a (sound_entered sound) k)).was_not_live (generation_in other))))
      (λ (d : number_in other ≡ alloc_number s.ids → ⊥). (given.others (number_in other) d).live_kept (generation_in other))
      (same_or_not (number_in other) (alloc_number s.ids))

  pub spawn_others : read_bytes (with_entity s a run) other t ≡ read_bytes s other t
  spawn_others =
      read_same sound (spawned_sound sound k run) other t spawn_live
      (none_new left (generation_in other) (number_in other) given.is_flushed ∙ sym (none_new s.ids (generation_in other) (number_in other) k.is_flushed))
      (λ x.
      let m = (live_lives s.ids sound.ids (generation_in other) (number_in other) x).0 in
      let d : number_in other ≡ alloc_number s.ids → ⊥ = λ e. next_new sound k run (subst (Lives s.ids) e m) in
      taken_same s.decl s.rows a (next_number s.ids) run (sound_entered sound).rows k.archetype_in k.row_unused s.ids left (number_in other)
      (seat_of sound (number_in other) m) ((given.others (number_in other) d).place_kept m.0))
