-- The store calls on sound tables: kept, refused exactly where the table says, and the counts.
-- Assumes nothing.
use Prim.Native.Nat.{ℕ, ◌-◌}
use native.Mathlib.Omega.{arith}
use mathlib.Core.Path.{◌≡◌, ◌∙◌}
use mathlib.Core.Bool.{true, false, ◌&&◌}
use borrow.Author.Tests.{lt-ltb, le-ltb}
use Rattle.id_tables.specs.Head.{free_of}
use Rattle.id_tables.specs.Ids.{damaged, live}
use Rattle.id_tables.proofs.Meaning.{not_damaged}
use Rattle.ids.specs.Reserve.{has_free, last_free}
use Rattle.ids.proofs.Listing.{none_or_some}
use Rattle.store_tables.specs.Store.{Store}
use Rattle.store_tables.specs.Rows.{archetype_of, row_of, owns, moved_damaged}
use Rattle.store_reads.proofs.Refusing.{reading_lines, writing_lines, holding_lines}
use Rattle.store_reads.proofs.Finding.{getting_is, containing_is, resolving_is, counting_is}
use Rattle.store_spawn.specs.Spawn.{next_damaged}
use Rattle.store_spawn.proofs.Refusing.{spawning_lines}
use Rattle.store_despawn.proofs.Refusing.{despawning_lines}
use Rattle.store_reserve.proofs.Refusing.{reserving_lines, reserving_many_lines, listing_free_lines}
use Rattle.store_flush.proofs.Refusing.{flushing_lines, clearing_lines}
use Rattle.soundness.specs.Sound.{Lives, Sound}
use Rattle.soundness.proofs.Calling.{refuses as ids-refuse}
use Rattle.soundness.proofs.Meaning.{sound_ok, pending_whole, part_whole, live_lives, some_live}
use Rattle.store_soundness.specs.StoreCalls.{Keeps, Refuses, Counts}
use Rattle.store_soundness.proofs.Bridge.{sound_entered}
use Rattle.store_soundness.proofs.Leaving.{own_row, moved_whole}
use Rattle.store_soundness.proofs.Spawn.{spawn_kept}
use Rattle.store_soundness.proofs.Despawn.{despawn_kept}
use Rattle.store_soundness.proofs.Batches.{reserve_kept, reserve_many_kept, flush_kept, clear_kept}
use Rattle.store_soundness.proofs.Writes.{write_kept, hold_kept}
use Rattle.store_soundness.proofs.Counting.{live_rows}

pub keeps : (s : Store) → Sound s → Keeps s
keeps s sound =
    record {
      spawn = λ a run bits t e. spawn_kept s a run sound e;
      despawn = λ bits t e. despawn_kept s bits sound e;
      write = λ bits type value t e. write_kept s bits type value sound e;
      hold = λ rule a type t e. hold_kept rule s a type sound e;
      reserve_one = λ bits t e. reserve_kept s sound e;
      reserve_many = λ n out left t e. reserve_many_kept s n out sound e;
      flush = λ t e. flush_kept s sound e;
      clear = λ t e. clear_kept s e;
    }

module _ {s : Store} (sound : Sound s) where
  -- a live handle's number
  lived : (g n : ℕ) → live s.ids g n ≡ true → Lives s.ids n
  lived g n l = (live_lives s.ids sound.ids g n l).0

  pub own : (g n : ℕ) → live s.ids g n ≡ true → owns s n ≡ true
  own g n l = own_row sound (lived g n l)

  pub moved_good : (g n : ℕ) → live s.ids g n ≡ true → moved_damaged s (archetype_of s n) (row_of s n) ≡ false
  moved_good g n l = moved_whole sound (lived g n l)

  next_whole : next_damaged s.ids ≡ false
  next_whole =
      none_or_some s.ids.head.pending (λ z. rw (le-ltb 0 s.ids.head.pending (omega arith)))
      (λ h. rw (lt-ltb 0 s.ids.head.pending h) (not_damaged _ _ _ _ (pending_whole s.ids sound.ids (s.ids.head.pending - 1) (omega arith))))

  free_whole : (has_free s.ids && damaged s.ids (last_free s.ids)) ≡ false
  free_whole =
      let ok = sound_ok s.ids sound.ids in
      none_or_some (free_of s.ids.head.cursor) (λ z. rw (le-ltb 0 (free_of s.ids.head.cursor) (omega arith)))
      (λ h. rw (lt-ltb 0 (free_of s.ids.head.cursor) h) (not_damaged _ _ _ _ (pending_whole s.ids sound.ids (free_of s.ids.head.cursor - 1) (omega arith))))

  pub refuses : Refuses s
  refuses =
      let e = sound_entered sound in
      let ok = sound_ok s.ids sound.ids in
      let ids = ids-refuse sound.ids in
      record {
        spawn = λ a run. (_, spawning_lines s a run e next_whole);
        despawn = λ bits. (_, despawning_lines s bits e (record { own = own _ _; some_live = λ l. some_live s.ids sound.ids _ (lived _ _ l); moved_good = moved_good _ _ }));
        read = λ bits type. (_, reading_lines s e bits type (own _ _));
        write = λ bits type value. (_, writing_lines s e bits type (own _ _) value);
        hold = λ rule a type. holding_lines rule s a type e;
        get = λ bits. (_, getting_is s sound.head_rule bits (own _ _) ∙ (ids.get bits).1);
        contains = λ bits. (_, containing_is s sound.head_rule bits ∙ (ids.contains bits).1);
        resolve = λ n. (_, resolving_is s sound.head_rule n ∙ (ids.resolve n).1);
        len = (_, counting_is s sound.head_rule ∙ (ids.len).1);
        free_list = λ out. (_, listing_free_lines s e out (part_whole s.ids sound.ids 0 (free_of s.ids.head.cursor) (omega arith)));
        reserve_one = (_, reserving_lines s e free_whole);
        reserve_many = λ n out. (_, reserving_many_lines s e n out (part_whole s.ids sound.ids (free_of s.ids.head.cursor - n) (free_of s.ids.head.cursor) (omega arith)));
        flush = (_, flushing_lines s e (part_whole s.ids sound.ids (free_of s.ids.head.cursor) s.ids.head.pending (omega arith)));
        clear = (_, clearing_lines s e);
      }

  pub counts : Counts s
  counts = record { live_rows = live_rows sound; live_numbers = (sound_ok s.ids sound.ids).live_is }
