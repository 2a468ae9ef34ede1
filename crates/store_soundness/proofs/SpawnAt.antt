-- Spawn at a chosen handle in sound tables, whether its number was live, pending or never used.
-- Assumes nothing.
use Prim.{Unit, tt}
use Prim.Native.Nat.{ℕ, ◌<◌}
use mathlib.Core.Path.{◌≡◌, refl, sym, ◌∙◌, subst}
use mathlib.Core.Bool.{Bool, true, false, true≢false}
use mathlib.Core.Logic.{◌⊎◌, inl, inr, ⊎_elim}
use mathlib.Core.List.{List}
use lib.ListN.{length}
use Rattle.refusal.specs.Table.{granted}
use Rattle.handle.specs.Bits.{place_of, generation_in, number_in}
use Rattle.id_tables.specs.Ids.{Ids, capacity}
use Rattle.ids.specs.AllocAt.{allocated_at}
use Rattle.ids.specs.AllocAt.{pending_at as positionIn}
use Rattle.ids.proofs.Passing.{ChosenOk}
use Rattle.ids.proofs.Listing.{below_or_not}
use Rattle.ids.proofs.Leaving.{Settled}
use Rattle.ids.proofs.Laws.{chosen_leaves}
use Rattle.decl.specs.Decl.{archetypes, rows_of, columns}
use Rattle.row_step.specs.Tables.{count_of}
use Rattle.row_step.proofs.Held.{same_or_not}
use Rattle.column_entry.specs.Kept.{Ready}
use Rattle.store_tables.specs.Store.{Store}
use Rattle.store_tables.specs.Rows.{archetype_of, row_of, vacated}
use Rattle.store_spawn_at.specs.SpawnAt.{chosen_live, without_old, with_chosen, spawning_at}
use Rattle.store_spawn_at.proofs.Laws.{live_means, means_live, SpawnAtOk, spawning_at_parts, old_left, none_left, can_choose}
use Rattle.soundness.specs.Sound.{Lives, SoundIds, Sound}
use Rattle.soundness.proofs.Meaning.{sound_ok}
use Rattle.soundness.proofs.Choosing.{position_pending, position_past, undoubted, chosen_sound, chosen_lives}
use Rattle.store_soundness.proofs.Seated.{Seated, seated_as}
use Rattle.store_soundness.proofs.Bridge.{sound_entered, sound_seated, seated_sound}
use Rattle.store_soundness.proofs.Leaving.{vacant_ids, vacant_lives, lives_vacant, vacant_ready, vacant_seated, vacant_store}
use Rattle.store_soundness.proofs.Taking.{taken_ready, taken_seated}

-- in the words of the tables: the chosen number lives
module _ {s : Ids} (k : SoundIds s) (n : ℕ) where
  pub chosen_lived : chosen_live s n ≡ true → Lives s n
  chosen_lived e = let l = live_means s n e in (l.below, position_past k n l.not_pending)

  pub lived_chosen : Lives s n → chosen_live s n ≡ true
  lived_chosen l =
      means_live s n
      (record {
        below = l.0;
        not_pending = below_or_not (positionIn s n) s.head.pending (λ h. absurd (l.1 (positionIn s n, h, position_pending k n h))) (λ h. h);
        placed = k.lives_placed n l;
      })

-- a store in which the chosen number has no row
module _ (t : Store) (k : SoundIds t.ids) (ready : Ready t.decl t.rows) (long : length t.words ≡ columns t.decl) {a n g : ℕ} (L : ℕ → Type 0)
    (seats : Seated t.decl t.rows t.ids L) (to : (m : ℕ) → L m → Lives t.ids m × (m ≡ n → ⊥)) (back : (m : ℕ) → Lives t.ids m → L m ⊎ (m ≡ n))
    (declared : a < archetypes t.decl) (room : count_of t.rows a < rows_of t.decl a)
    (c : ChosenOk t.ids.head (capacity t.ids) (place_of a (count_of t.rows a)) n) (nz : g ≡ 0 → ⊥) where
  abbrev left : Ids
  left = (allocated_at t.ids (place_of a (count_of t.rows a)) g n).1

  pub settles : Settled t.ids n g (place_of a (count_of t.rows a)) left
  settles = chosen_leaves t.ids _ g n (sound_ok t.ids k) c (undoubted k n)

  pub way_sound : (run : List ℕ) → Sound (with_chosen t a run g n)
  way_sound run =
      seated_sound t.decl left _ t.words (chosen_sound k c g nz) (taken_ready t.decl t.rows a n run ready declared room) long
      (seated_as
      (λ m x. (chosen_lives k c g nz m).1 (⊎_elim (λ (l : L m). inl (to m l).0) (λ (e : m ≡ n). inr e) x))
      (λ m x. ⊎_elim (λ (l : Lives t.ids m). back m l) (λ (e : m ≡ n). inr e) ((chosen_lives k c g nz m).0 x))
      (taken_seated t.decl t.rows a n run ready declared room t.ids left L seats settles.place_is (λ m l. (settles.others m (to m l).1).place_kept (to m l).0.0)))

module _ {s : Store} (sound : Sound s) {a g n : ℕ} (run : List ℕ) (k : SpawnAtOk s a n) (nz : g ≡ 0 → ⊥) where
  chosen : ChosenOk (without_old s n).ids.head (capacity (without_old s n).ids) (place_of a (count_of (without_old s n).rows a)) n
  chosen = can_choose s a n (sound_entered sound) k

  -- it lived: its old row has left
  over_live : chosen_live s.ids n ≡ true → Sound (with_chosen (without_old s n) a run g n)
  over_live e =
      let l = chosen_lived sound.ids n e in
      let q = old_left s n e ∙ vacant_store sound l (vacated s (archetype_of s n) (row_of s n)).ids in
      let room = subst (λ (t : Store). count_of t.rows a < rows_of s.decl a) q k.row_unused in
      let c = subst (λ (t : Store). ChosenOk t.ids.head (capacity t.ids) (place_of a (count_of t.rows a)) n) q chosen in
      subst (λ (t : Store). Sound (with_chosen t a run g n)) (sym q)
      (way_sound _ (vacant_ids sound l) (vacant_ready sound l) (sound_entered sound).words_long (λ (m : ℕ). Lives s.ids m × (m ≡ n → ⊥))
      (vacant_seated sound l _ (λ m x ne. refl)) (λ m x. (vacant_lives sound l m x.0, x.1))
      (λ m x. ⊎_elim (λ (d : m ≡ n). inr d) (λ (ne : m ≡ n → ⊥). inl (lives_vacant sound l m x, ne)) (same_or_not m n))
      k.archetype_in room c nz run)

  over_none : chosen_live s.ids n ≡ false → Sound (with_chosen (without_old s n) a run g n)
  over_none e =
      let q = none_left s n e in
      let room = subst (λ (t : Store). count_of t.rows a < rows_of s.decl a) q k.row_unused in
      let c = subst (λ (t : Store). ChosenOk t.ids.head (capacity t.ids) (place_of a (count_of t.rows a)) n) q chosen in
      subst (λ (t : Store). Sound (with_chosen t a run g n)) (sym q)
      (way_sound s sound.ids (sound_entered sound).rows (sound_entered sound).words_long (Lives s.ids) (sound_seated sound)
      (λ m x. (x, λ d. true≢false (sym (lived_chosen sound.ids n (rw d at x)) ∙ e))) (λ m x. inl x) k.archetype_in room c nz run)

  pub chosen_store : Sound (with_chosen (without_old s n) a run g n)
  chosen_store = by (chosen_live s.ids n) refl
    where
      by : (b : Bool) → chosen_live s.ids n ≡ b → Sound (with_chosen (without_old s n) a run g n)
      by true e = over_live e
      by false e = over_none e

pub spawn_at_kept : (s : Store) (bits a : ℕ) (run : List ℕ) {x : Unit {0} × Store} → Sound s → granted x ≡ spawning_at s bits a run → Sound x.1
spawn_at_kept s bits a run {x} sound e =
    let p = spawning_at_parts s a run bits e in
    let q : x ≡ (tt, with_chosen (without_old s (number_in bits)) a run (generation_in bits) (number_in bits)) = cc in
    rw q (chosen_store sound run p.2 p.1)
