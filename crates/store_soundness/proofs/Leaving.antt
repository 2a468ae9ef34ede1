-- A live number's row leaves sound tables: no test of it fails, and rows and places stay in step for the others.
-- Assumes nothing.
use Prim.Native.Nat.{ℕ, ◌<◌}
use native.Mathlib.Omega.{arith}
use mathlib.Core.Path.{◌≡◌, refl, ◌∙◌}
use mathlib.Core.Bool.{Bool, true, false}
use borrow.Author.Tests.{eqb-false, ne_eqb}
use Rattle.handle.specs.Bits.{place_of}
use Rattle.id_tables.specs.Ids.{Ids, place_at}
use Rattle.row_step.specs.Tables.{last_of}
use Rattle.column_entry.specs.Kept.{Ready, There}
use Rattle.columns.specs.Calls.{removed_from}
use Rattle.columns.proofs.Held.{removed_ready}
use Rattle.store_tables.specs.Store.{Store, store_of, with_ids}
use Rattle.store_tables.specs.Rows.{archetype_of, row_of, owns, last_number, is_last, moved_damaged, vacated}
use Rattle.store_tables.proofs.Places.{Owned}
use Rattle.store_tables.proofs.Vacating.{Vacates, vacates, vacated_decl, vacated_words, vacated_rows, vacated_last, vacated_other}
use Rattle.store_tables.proofs.Passing.{owned_owns, moving_good}
use Rattle.soundness.specs.Sound.{Lives, SoundIds, Sound}
use Rattle.soundness.proofs.Keeping.{place_sound}
use Rattle.store_soundness.proofs.Seated.{Seat, Seated, last_named, last_place_lem, archetype_is, row_is, vacated_seated}
use Rattle.store_soundness.proofs.Bridge.{sound_entered, sound_seated, seat_of}

module _ {s : Store} (sound : Sound s) {n : ℕ} (l : Lives s.ids n) where
  abbrev a : ℕ
  a = archetype_of s n

  abbrev r : ℕ
  r = row_of s n

  abbrev v : ℕ
  v = last_number s (archetype_of s n)

  ready : Ready s.decl s.rows
  ready = (sound_entered sound).rows

  seat : Seat s.decl s.rows s.ids n
  seat = seat_of sound n l

  -- its place is its own
  pub own_owned : Owned s n
  own_owned = record { archetype_in = seat.archetype_in; row_in = seat.row_in; held = seat.holds }

  pub own_row : owns s n ≡ true
  own_row = owned_owns s n own_owned

  pub row_there : There s.decl s.rows (archetype_of s n) (row_of s n)
  row_there = record { ready = ready; archetype_in = seat.archetype_in; row_in = seat.row_in }

  pub row_small : row_of s n < 4096
  row_small = omega (arith, seat.row_in, ready.counts_in a, ready.tabled.kept.declared.shaped.rows_in a)

  -- the number of the last row lives, and that row is its place
  pub last_lives : Lives s.ids (last_number s (archetype_of s n))
  last_lives = last_named s.decl s.rows s.ids (Lives s.ids) ready (sound_seated sound) n l

  pub last_there : place_at s.ids (last_number s (archetype_of s n)) ≡ place_of (archetype_of s n) (last_of s.rows (archetype_of s n))
  last_there = last_place_lem s.decl s.rows s.ids (Lives s.ids) ready (sound_seated sound) n l

  pub moved_whole : moved_damaged s (archetype_of s n) (row_of s n) ≡ false
  moved_whole =
      moving_good s a r
      (λ e. record { below = last_lives.0; archetype_is = archetype_is s.ids v a (last_of s.rows a) last_there; row_is = row_is s.ids v a (last_of s.rows a) last_there })

  -- what leaves the ids
  pub vacant : Vacates s (archetype_of s n) (row_of s n)
  vacant = vacates s a r (sound_entered sound) seat.row_in moved_whole

  pub vacant_ids : SoundIds (vacated s (archetype_of s n) (row_of s n)).ids
  vacant_ids = by (is_last s a r) refl
    where
      by : (b : Bool) → is_last s a r ≡ b → SoundIds (vacated s a r).ids
      by true e = rw (vacated_last s a r e) sound.ids
      by false e = rw (vacated_other s a r e) (place_sound sound.ids last_lives (place_of a r) (omega (arith, row_small)))

  -- the same numbers live
  pub vacant_lives : (m : ℕ) → Lives s.ids m → Lives (vacated s (archetype_of s n) (row_of s n)).ids m
  vacant_lives m k = rw (vacant.head_kept, vacant.pending_kept) k

  pub lives_vacant : (m : ℕ) → Lives (vacated s (archetype_of s n) (row_of s n)).ids m → Lives s.ids m
  lives_vacant m k = rw (vacant.head_kept, vacant.pending_kept) at k

  pub vacant_ready : Ready s.decl (removed_from s.decl s.rows (archetype_of s n) (row_of s n))
  vacant_ready = removed_ready s.decl s.rows a r row_there

  -- rows and places stay in step for the others, whatever has become of n's place
  pub vacant_seated : (j : Ids) → ((m : ℕ) → Lives s.ids m → (m ≡ n → ⊥) → place_at j m ≡ place_at (vacated s (archetype_of s n) (row_of s n)).ids m)
      → Seated s.decl (removed_from s.decl s.rows (archetype_of s n) (row_of s n)) j (λ (m : ℕ). Lives s.ids m × (m ≡ n → ⊥))
  vacant_seated j same =
      vacated_seated s.decl s.rows s.ids (Lives s.ids) ready (sound_seated sound) n l j
      (λ e. same v last_lives (λ q. e (row_is s.ids n a (last_of s.rows a) (rw q at last_there))) ∙ vacant.moved_place (ne_eqb r (last_of s.rows a) e))
      (λ m k ne nv. same m k ne ∙ vacant.other_place m (λ f. nv (eqb-false r (last_of s.rows a) f)))

  -- the store that is left, with other ids
  pub vacant_store : (j : Ids) → with_ids (vacated s (archetype_of s n) (row_of s n)) j ≡ store_of s.decl j (removed_from s.decl s.rows (archetype_of s n) (row_of s n)) s.words
  vacant_store j = rw (vacated_decl s a r, vacated_rows s a r, vacated_words s a r)
