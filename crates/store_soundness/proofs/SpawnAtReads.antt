-- Spawn at: a read by a handle of any other number gives what it gave, and the chosen handle reads the run.
-- Assumes nothing.
use Rattle.std.specs.Prelude.{Some, None}
use Prim.Native.Nat.{ℕ, ◌<◌}
use mathlib.Core.Path.{◌≡◌, refl, sym, ap, ◌∙◌, subst}
use mathlib.Core.Bool.{Bool, true, false}
use mathlib.Core.List.{List}
use lib.ListN.{length, take}
use Rattle.refusal.specs.Table.{granted, refused}
use Rattle.handle.specs.Bits.{place_of, generation_in, number_in}
use Rattle.id_tables.specs.Ids.{Ids, capacity, place_at, live}
use Rattle.ids.specs.AllocAt.{allocated_at}
use Rattle.ids.proofs.Passing.{ChosenOk}
use Rattle.ids.proofs.Leaving.{Settled}
use Rattle.ids.proofs.Laws.{chosen_leaves}
use Rattle.decl.specs.Decl.{rows_of, types_of, sizes_of, size_of}
use Rattle.decl.specs.Places.{row_width}
use Rattle.decl.specs.Lookup.{column_of}
use Rattle.cells.specs.Cell.{cell}
use Rattle.cells.specs.Line.{width}
use Rattle.handle.specs.declared.Place.{Place}
use Rattle.row_step.specs.Tables.{Rows, count_of}
use Rattle.columns.specs.Calls.{removed_from}
use Rattle.column_entry.specs.Kept.{Ready}
use Rattle.store_tables.specs.Store.{Store, store_of}
use Rattle.store_tables.specs.Rows.{archetype_of, row_of, vacated}
use Rattle.store_reads.proofs.Cells.{column_in}
use Rattle.store_spawn_at.specs.SpawnAt.{chosen_live, without_old, with_chosen}
use Rattle.store_spawn_at.proofs.Laws.{SpawnAtOk, old_left, none_left, can_choose}
use Rattle.soundness.specs.Sound.{Lives, SoundIds, Sound}
use Rattle.soundness.proofs.Meaning.{sound_ok, live_lives}
use Rattle.soundness.proofs.Choosing.{undoubted}
use Rattle.store_soundness.specs.Reads.{read_bytes}
use Rattle.store_soundness.proofs.Seated.{Seat, archetype_is, row_is}
use Rattle.store_soundness.proofs.Bridge.{sound_entered, seat_of}
use Rattle.store_soundness.proofs.Leaving.{vacant, vacant_ids, vacant_lives, vacant_ready, vacant_seated, vacant_store}
use Rattle.store_soundness.proofs.Reading.{Same, read_same, read_held, read_missing}
use Rattle.store_soundness.proofs.Holding.{taken_same, taken_run, vacant_same, same_trans}
use Rattle.store_soundness.proofs.Others.{none_new}
use Rattle.store_soundness.proofs.Touched.{not_unique}
use Rattle.store_soundness.proofs.SpawnAt.{chosen_lived, chosen_store}

module _ {s : Store} (sound : Sound s) {a g n : ℕ} (run : List ℕ) (k : SpawnAtOk s a n) (nz : g ≡ 0 → ⊥) where
  chosen : ChosenOk (without_old s n).ids.head (capacity (without_old s n).ids) (place_of a (count_of (without_old s n).rows a)) n
  chosen = can_choose s a n (sound_entered sound) k

  -- a store in which the chosen number has no row, and every other number holds what it held
  module _ (i : Ids) (w : Rows) (q : without_old s n ≡ store_of s.decl i w s.words) (ids : SoundIds i) (ready : Ready s.decl w) where
    abbrev place : Place
    place = place_of a (count_of w a)

    abbrev left : Ids
    left = (allocated_at i place g n).1

    room : count_of w a < rows_of s.decl a
    room = subst (λ (t : Store). count_of t.rows a < rows_of s.decl a) q k.row_unused

    good : ChosenOk i.head (capacity i) place n
    good = subst (λ (t : Store). ChosenOk t.ids.head (capacity t.ids) (place_of a (count_of t.rows a)) n) q chosen

    settled : Settled i n g place left
    settled = chosen_leaves i place g n (sound_ok i ids) good (undoubted ids n)

    after : Sound (with_chosen (store_of s.decl i w s.words) a run g n)
    after = subst (λ (t : Store). Sound (with_chosen t a run g n)) q (chosen_store sound run k nz)

    module _ (other t : ℕ) (ne : number_in other ≡ n → ⊥) (live_kept : live i (generation_in other) (number_in other) ≡ live s.ids (generation_in other) (number_in other))
        (same : Lives s.ids (number_in other) → Same s.decl s.ids i s.rows w (number_in other) × Seat s.decl w i (number_in other) × (number_in other < i.head.used)) where
      others_from : read_bytes (with_chosen (without_old s n) a run g n) other t ≡ read_bytes s other t
      others_from =
          subst (λ (z : Store). read_bytes (with_chosen z a run g n) other t ≡ read_bytes s other t) (sym q)
          (read_same sound after other t ((settled.others (number_in other) ne).live_kept (generation_in other) ∙ live_kept)
          (none_new left (generation_in other) (number_in other) settled.is_flushed ∙ sym (none_new s.ids (generation_in other) (number_in other) k.is_flushed))
          (λ x.
          let m = (live_lives s.ids sound.ids (generation_in other) (number_in other) x).0 in
          let (y, z, b) = same m in
          same_trans y (taken_same s.decl w a n run ready k.archetype_in room i left (number_in other) z ((settled.others (number_in other) ne).place_kept b))))

    -- the chosen handle
    module _ (bits t : ℕ) (eg : generation_in bits ≡ g) (en : number_in bits ≡ n) where
      alive : live left (generation_in bits) (number_in bits) ≡ true
      alive = rw (eg, en) settled.lives

      there : place_at left (number_in bits) ≡ place_of a (count_of w a)
      there = rw en settled.place_is

      read_from_lem : length run ≡ row_width s.decl a → (c : ℕ) → column_of (types_of s.decl a) t ≡ Some c
          → read_bytes (with_chosen (without_old s n) a run g n) bits t ≡ granted (cell run (width (take c (sizes_of s.decl a))) (size_of s.decl a c))
      read_from_lem long c e =
          subst (λ (z : Store). read_bytes (with_chosen z a run g n) bits t ≡ granted (cell run (width (take c (sizes_of s.decl a))) (size_of s.decl a c))) (sym q)
          (read_held after bits t (λ x. nz (sym eg ∙ x)) alive c (rw (archetype_is left (number_in bits) a (count_of w a) there) e) (not_unique s.words k.no_word _)
          ∙ ap granted
          (rw (archetype_is left (number_in bits) a (count_of w a) there, row_is left (number_in bits) a (count_of w a) there)
          (taken_run s.decl w a n run ready k.archetype_in room long c (column_in s.decl a t c ready.tabled.kept e))))

      lacks_from : column_of (types_of s.decl a) t ≡ None → read_bytes (with_chosen (without_old s n) a run g n) bits t ≡ refused 15
      lacks_from e =
          subst (λ (z : Store). read_bytes (with_chosen z a run g n) bits t ≡ refused 15) (sym q)
          (read_missing after bits t (λ x. nz (sym eg ∙ x)) alive (rw (archetype_is left (number_in bits) a (count_of w a) there) e))

  -- the number lived: its old row has left
  module _ (e : chosen_live s.ids n ≡ true) where
    l : Lives s.ids n
    l = chosen_lived sound.ids n e

    abbrev vac : Ids
    vac = (vacated s (archetype_of s n) (row_of s n)).ids

    abbrev gone : Rows
    gone = removed_from s.decl s.rows (archetype_of s n) (row_of s n)

    over_is : without_old s n ≡ store_of s.decl vac gone s.words
    over_is = old_left s n e ∙ vacant_store sound l vac

  pub spawn_at_others : (other t : ℕ) → (number_in other ≡ n → ⊥) → read_bytes (with_chosen (without_old s n) a run g n) other t ≡ read_bytes s other t
  spawn_at_others other t ne = by (chosen_live s.ids n) refl
    where
      by : (b : Bool) → chosen_live s.ids n ≡ b → read_bytes (with_chosen (without_old s n) a run g n) other t ≡ read_bytes s other t
      by true e =
          others_from (vac e) (gone e) (over_is e) (vacant_ids sound (l e)) (vacant_ready sound (l e)) other t ne ((vacant sound (l e)).live_kept (generation_in other) (number_in other))
          (λ m. (vacant_same sound (l e) (vac e) (number_in other) m ne refl, (vacant_seated sound (l e) (vac e) (λ x _ _. refl)).seat (number_in other) (m, ne), (vacant_lives sound (l e) (number_in other) m).0))
      by false e =
          others_from s.ids s.rows (none_left s n e) sound.ids (sound_entered sound).rows other t ne refl
          (λ m. (record { archetype_same = refl; held_same = λ c h. refl }, seat_of sound (number_in other) m, m.0))

  pub spawn_at_read : (bits t : ℕ) → generation_in bits ≡ g → number_in bits ≡ n → length run ≡ row_width s.decl a → (c : ℕ) → column_of (types_of s.decl a) t ≡ Some c
      → read_bytes (with_chosen (without_old s n) a run g n) bits t ≡ granted (cell run (width (take c (sizes_of s.decl a))) (size_of s.decl a c))
  spawn_at_read bits t eg en long c h = by (chosen_live s.ids n) refl
    where
      by : (b : Bool) → chosen_live s.ids n ≡ b → read_bytes (with_chosen (without_old s n) a run g n) bits t ≡ granted (cell run (width (take c (sizes_of s.decl a))) (size_of s.decl a c))
      by true e = read_from_lem (vac e) (gone e) (over_is e) (vacant_ids sound (l e)) (vacant_ready sound (l e)) bits t eg en long c h
      by false e = read_from_lem s.ids s.rows (none_left s n e) sound.ids (sound_entered sound).rows bits t eg en long c h

  pub spawn_at_lacks : (bits t : ℕ) → generation_in bits ≡ g → number_in bits ≡ n → column_of (types_of s.decl a) t ≡ None → read_bytes (with_chosen (without_old s n) a run g n) bits t ≡ refused 15
  spawn_at_lacks bits t eg en h = by (chosen_live s.ids n) refl
    where
      by : (b : Bool) → chosen_live s.ids n ≡ b → read_bytes (with_chosen (without_old s n) a run g n) bits t ≡ refused 15
      by true e = lacks_from (vac e) (gone e) (over_is e) (vacant_ids sound (l e)) (vacant_ready sound (l e)) bits t eg en h
      by false e = lacks_from s.ids s.rows (none_left s n e) sound.ids (sound_entered sound).rows bits t eg en h
