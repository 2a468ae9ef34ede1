-- n direct spawns into archetype 0 of sound tables: all are granted, and their numbers are the first n, each once.
-- Assumes nothing.
use Prim.Native.Nat.{ℕ, zero, suc, ◌+◌, ◌-◌}
use native.Mathlib.Omega.{arith}
use mathlib.Core.Path.{◌≡◌, refl, sym, ap, ap₂, ◌∙◌, subst}
use mathlib.Core.Logic.{⊎_elim}
use mathlib.Core.List.Memᴰ
use mathlib.Core.List.{List, [], ◌∷◌, map}
use borrow.Author.Tests.{lt-ltb, le-ltb}
use lib.ListN.{length}
use lib.Seq.{get_or-set_same}
use Rattle.refusal.specs.Table.{Answer, granted}
use Rattle.handle.specs.Bits.{bits_of, place_of}
use Rattle.handle.specs.declared.Place.{Place}
use Rattle.id_tables.specs.Ids.{Ids}
use Rattle.ids.specs.Alloc.{last_pending}
use Rattle.ids.proofs.Passing.{AllocOk, flushed_room}
use Rattle.ids.proofs.Listing.{none_or_some}
use Rattle.ids.proofs.Laws.{alloc_number, alloc_generation, alloc_leaves}
use Rattle.decl.specs.Decl.{Decl, sizes_of}
use Rattle.decl.specs.Places.{row_width}
use Rattle.decl.specs.Kept.{Shaped}
use Rattle.decl.proofs.Lists.{first_none}
use Rattle.decl.proofs.Keeping.{sizes_length}
use Rattle.decl.proofs.Lending.{row_width_lem}
use Rattle.row_step.specs.Tables.{count_of, tables_of}
use Rattle.row_step.proofs.Held.{appended_counts}
use Rattle.column_entry.specs.Entry.{block_in}
use Rattle.store_steps.specs.Seats.{filled}
use Rattle.store_steps.proofs.Laws.{seated_rows_lem}
use Rattle.store_tables.specs.Store.{Store}
use Rattle.store_tables.specs.Kept.{Entered}
use Rattle.store_spawn.specs.Spawn.{next_number, next_ids, with_entity, spawning}
use Rattle.store_spawn.proofs.Laws.{SpawnOk, can_alloc}
use Rattle.store_spawn.proofs.Granting.{spawning_at}
use Rattle.soundness.specs.Sound.{SoundIds, Sound}
use Rattle.soundness.proofs.Lists.{Mem, Lists, lists_none, lists_one, lists_as, lists_join, Between}
use Rattle.soundness.proofs.Meaning.{Old, sound_ok}
use Rattle.soundness.proofs.Growing.{Fresh, Grown, used_is, pending_is, long_same, fresh_apart}
use Rattle.soundness.proofs.Keeping.{alloc_fresh, alloc_grown}
use Rattle.soundness.proofs.Calling.{last_whole}
use Rattle.soundness.proofs.Handing.{gen_of, gen_old, gen_new, handle_of, map_agree, fresh_join, fresh_split}
use Rattle.soundness.proofs.Knowing.{gen_kept, grown_flushed}
use Rattle.soundness.proofs.Twice.{fresh_after, fresh_of_after, grown_then, grown_none}
use Rattle.store_soundness.specs.Reads.{read_bytes}
use Rattle.store_soundness.proofs.Bridge.{sound_entered}
use Rattle.store_soundness.proofs.Spawn.{spawned_sound}
use Rattle.store_soundness.proofs.Others.{spawn_others}
use Rattle.demand_three.specs.Steps.{the_one, ◌and_then◌, spawns}
use Rattle.demand_three.specs.Demand.{Ready}

-- rows of archetype 0 have no bytes
no_width : (d : Decl) → Shaped d → row_width d 0 ≡ 0
no_width d g = rw (sizes_length d g 0, g.bare, first_none) at (row_width_lem d 0)

-- what n spawns give and leave
pub record Spawned (s : Store) (n : ℕ) (said : Answer (List ℕ × Store)) : Type 0 where
  pub numbers : List ℕ
  pub left : Store
  pub said_is : said ≡ granted (map (handle_of s.ids) numbers, left)
  pub grown : Grown s.ids n left.ids
  pub sound : Sound left
  pub lists : Lists (Fresh s.ids 0 n) numbers
  pub count : length numbers ≡ n
  pub reads : (h : ℕ) → (Mem h (map (handle_of s.ids) numbers) → ⊥) → (kind : ℕ) → read_bytes left h kind ≡ read_bytes s h kind

-- the number and the handle of the next spawn
module _ {s : Ids} (k : SoundIds s) {place : Place} (a : AllocOk s place) where
  next_lists : Lists (Fresh s 0 1) (alloc_number s ∷ [])
  next_lists = lists_as (λ m e. (alloc_fresh k a m).1 e) (λ m x. (alloc_fresh k a m).0 x) (lists_one (alloc_number s))

  next_gen : alloc_generation s ≡ gen_of s (alloc_number s)
  next_gen =
      none_or_some s.head.pending
      (λ z. rw (le-ltb 0 s.head.pending (omega arith)) (sym (gen_new s s.head.used (omega arith))))
      (λ h. rw (lt-ltb 0 s.head.pending h) (sym (gen_old s (last_pending s) (k.pending_below (s.head.pending - 1) (omega arith)))))

-- one spawn
module _ {s : Store} {n : ℕ} (r : Ready s (suc n)) where
  entered : Entered s
  entered = sound_entered r.sound

  shaped : Shaped s.decl
  shaped = entered.rows.tabled.kept.declared.shaped

  spawn_ok : SpawnOk s 0
  spawn_ok =
      record {
        is_flushed = r.nothing_reserved;
        archetype_in = shaped.some;
        no_word = r.no_borrow;
        has_room = omega (arith, r.numbers);
        row_unused = omega (arith, r.rows);
        next_good = last_whole r.sound.ids;
      }

  can : AllocOk s.ids (place_of 0 (count_of s.rows 0))
  can = can_alloc s 0 entered spawn_ok

  spawn_granted : spawning s 0 [] ≡ granted ((next_ids s 0).0, with_entity s 0 [])
  spawn_granted = spawning_at s 0 [] entered (sym (no_width s.decl shaped)) spawn_ok

  next_handle_lem : (next_ids s 0).0 ≡ handle_of s.ids (alloc_number s.ids)
  next_handle_lem = (alloc_leaves s.ids (place_of 0 (count_of s.rows 0)) can).bits_are ∙ ap (λ (g : ℕ). bits_of g (alloc_number s.ids)) (next_gen r.sound.ids can)

  one_more : count_of (with_entity s 0 []).rows 0 ≡ count_of s.rows 0 + 1
  one_more =
      rw (seated_rows_lem (block_in s.decl 0) (sizes_of s.decl 0) s.rows 0 (next_number s.ids) [] spawn_ok.row_unused, appended_counts (block_in s.decl 0) (tables_of s.rows.numbers s.rows.counts (filled (block_in s.decl 0) (sizes_of s.decl 0) s.rows 0 [])) 0 (next_number s.ids))
      (get_or-set_same s.rows.counts 0 (count_of s.rows 0 + 1) 0 (omega (arith, entered.rows.tabled.counts_long, shaped.some)))

  grown_one : Grown s.ids 1 (with_entity s 0 []).ids
  grown_one = alloc_grown r.sound.ids can

  ready_after : Sound (with_entity s 0 []) → Ready (with_entity s 0 []) n
  ready_after k =
      let ok = sound_ok s.ids r.sound.ids in
      record {
        sound = k;
        nothing_reserved = grown_flushed grown_one;
        no_borrow = r.no_borrow;
        numbers = omega (arith, r.numbers, flushed_room s.ids r.nothing_reserved, flushed_room (with_entity s 0 []).ids (grown_flushed grown_one), used_is grown_one, pending_is grown_one, long_same grown_one ok);
        rows = omega (arith, r.rows, one_more);
      }

  then_spawned : Spawned (with_entity s 0 []) n (spawns n (with_entity s 0 [])) → Spawned s (suc n) (the_one (spawning s 0 []) and_then spawns n)
  then_spawned q =
      let e : 1 + n ≡ suc n = omega arith in
      let same_handles : map (handle_of (with_entity s 0 []).ids) q.numbers ≡ map (handle_of s.ids) q.numbers =
      map_agree (handle_of (with_entity s 0 []).ids) (handle_of s.ids) q.numbers (λ m x. ap (λ (g : ℕ). bits_of g m) (gen_kept r.sound.ids grown_one m))
      in
      record {
        numbers = alloc_number s.ids ∷ q.numbers;
        left = q.left;
        said_is =
            rw (spawn_granted, q.said_is)
            (ap₂ (λ (h : ℕ) (hs : List ℕ). granted (h ∷ hs, q.left)) next_handle_lem same_handles);
        grown = subst (λ (x : ℕ). Grown s.ids x q.left.ids) e (grown_then grown_one r.sound.ids q.grown);
        sound = q.sound;
        lists = subst (λ (x : ℕ). Lists (Fresh s.ids 0 x) (alloc_number s.ids ∷ q.numbers)) e
            (lists_as (λ m. fresh_join s.ids 0 1 (1 + n) m (omega arith) (omega arith)) (λ m. fresh_split s.ids 0 1 (1 + n) m (omega arith) (omega arith))
            (lists_join (fresh_apart r.sound.ids 0 1 (1 + n)) (next_lists r.sound.ids can) (lists_as (fresh_after grown_one n) (fresh_of_after grown_one n) q.lists)));
        count = ap suc q.count;
        reads = λ h out kind.
            q.reads h (λ m. out (Memᴰ.tail (subst (Mem h) same_handles m))) kind
            ∙ spawn_others r.sound spawn_ok [] h kind (λ e. out (Memᴰ.head (e ∙ next_handle_lem)));
      }

-- all of them
pub spawns_granted : (n : ℕ) (s : Store) → Ready s n → Spawned s n (spawns n s)
unfolding spawns
spawns_granted zero s r =
    record {
      numbers = [];
      left = s;
      said_is = refl;
      grown = grown_none (sound_ok s.ids r.sound.ids) r.nothing_reserved;
      sound = r.sound;
      lists = lists_as (λ m e. absurd e)
          (λ m q. ⊎_elim (λ (o : Old s.ids (s.ids.head.pending - 0) (s.ids.head.pending - 0) m). let (j, b, e) = o in omega arith) (λ (b : Between (s.ids.head.used + (0 - s.ids.head.pending)) (s.ids.head.used + (0 - s.ids.head.pending)) m). omega arith) q)
          lists_none;
      count = refl;
      reads = λ h out kind. refl;
    }
spawns_granted (suc n) s r = then_spawned r (spawns_granted n (with_entity s 0 []) (ready_after r (spawned_sound r.sound (spawn_ok r) [])))
