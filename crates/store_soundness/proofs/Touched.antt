-- Reads by the handle that a call names: after spawn the bytes that were given, after despawn 2.
-- Assumes nothing.
use Rattle.std.specs.Prelude.{Some, None}
use Prim.Native.Nat.{ℕ, zero, suc, ◌+◌, ◌<◌, ◌≤◌, ◌^◌}
use native.Mathlib.Omega.{arith}
use mathlib.Core.Path.{◌≡◌, sym, ap, ◌∙◌}
use mathlib.Core.Bool.{true, false, true≢false}
use mathlib.Core.Logic.{⊎_elim}
use mathlib.Core.List.{List}
use lib.ListN.{length, get_or, take, drop, get_or-eq_default}
use Rattle.refusal.specs.Table.{granted, refused}
use Rattle.handle.specs.Bits.{place_of, generation_in, number_in}
use Rattle.handle.specs.RoundTrip.{generation_back, number_back}
use Rattle.handle.specs.declared.Place.{Place}
use Rattle.borrow_word.specs.Word.{is_unique}
use Rattle.borrow_word.specs.Slice.{any_held}
use Rattle.borrow_word.proofs.Laws.{held_here, held_next}
use Rattle.id_tables.specs.Ids.{Ids, place_at, live}
use Rattle.ids.specs.Free.{freed_ids}
use Rattle.ids.proofs.Laws.{Alloced, alloc_number, alloc_generation, alloc_head, alloc_leaves, free_leaves}
use Rattle.ids.proofs.Listing.{below_or_not}
use Rattle.decl.specs.Decl.{types_of, sizes_of, size_of}
use Rattle.decl.specs.Places.{row_width}
use Rattle.decl.specs.Lookup.{column_of}
use Rattle.cells.specs.Cell.{cell}
use Rattle.cells.specs.Line.{width}
use Rattle.row_step.specs.Tables.{count_of}
use Rattle.row_step.proofs.Held.{same_or_not}
use Rattle.store_tables.specs.Store.{Store}
use Rattle.store_tables.specs.Rows.{archetype_of, row_of, vacated}
use Rattle.store_reads.proofs.Cells.{column_in}
use Rattle.store_spawn.specs.Spawn.{next_number, next_ids, with_entity}
use Rattle.store_spawn.proofs.Laws.{SpawnOk, can_alloc}
use Rattle.store_despawn.specs.Despawn.{without_entity}
use Rattle.store_despawn.proofs.Laws.{DespawnOk}
use Rattle.soundness.specs.Sound.{Sound}
use Rattle.store_soundness.specs.Reads.{read_bytes}
use Rattle.store_soundness.proofs.Seated.{archetype_at, archetype_is, row_is}
use Rattle.store_soundness.proofs.Bridge.{sound_entered}
use Rattle.store_soundness.proofs.Reading.{read_absent, read_missing, read_held}
use Rattle.store_soundness.proofs.Holding.{taken_run}
use Rattle.store_soundness.proofs.Others.{none_new}
use Rattle.store_soundness.proofs.Spawn.{spawned_sound}
use Rattle.store_soundness.proofs.Despawn.{can_free, ended_sound}

-- where no word is held, each is 0
module _ (words : List ℕ) where
  free_from : (left i : ℕ) → i + left ≡ length words → any_held (drop i words) ≡ false → (k : ℕ) → i ≤ k → k < length words → get_or words k 0 ≡ 0
  free_from zero i e h k lo hi = absurd (omega arith)
  free_from (suc left) i e h k lo hi =
      ⊎_elim
      (λ (z : get_or words i 0 ≡ 0). ⊎_elim (λ (q : k ≡ i). rw q z) (λ (q : k ≡ i → ⊥). free_from left (i + 1) (omega arith) (sym (held_next words i (omega arith) z) ∙ h) k (omega (arith, q)) hi) (same_or_not k i))
      (λ (z : get_or words i 0 ≡ 0 → ⊥). absurd (true≢false (sym (held_here words i (omega arith) z) ∙ h))) (same_or_not (get_or words i 0) 0)

  pub all_free : any_held words ≡ false → (k : ℕ) → get_or words k 0 ≡ 0
  all_free h k = below_or_not k (length words) (λ b. free_from (length words) 0 (omega arith) h k (omega arith) b) (λ b. get_or-eq_default words 0 {n = k} b)

  pub not_unique : any_held words ≡ false → (k : ℕ) → is_unique (get_or words k 0) ≡ false
  not_unique h k = ap is_unique (all_free h k)

-- Spawn: the handle that is given reads the run, in column order, and 15 for a type that the archetype lacks.
module _ {s : Store} (sound : Sound s) {a : ℕ} (k : SpawnOk s a) (run : List ℕ) (t : ℕ) where
  abbrev place : Place
  place = place_of a (count_of s.rows a)

  abbrev left : Ids
  left = (next_ids s a).1

  abbrev n : ℕ
  n = alloc_number s.ids

  abbrev g : ℕ
  g = alloc_generation s.ids

  abbrev bits : ℕ
  bits = (next_ids s a).0

  given : Alloced s.ids place n g (alloc_head s.ids) bits left
  given = alloc_leaves s.ids place (can_alloc s a (sound_entered sound) k)

  small : n < 2 ^ 32
  small = omega (arith, given.number_in_lem, (sound_entered sound).ids.small)

  number_is : number_in bits ≡ n
  number_is = ap number_in given.bits_are ∙ number_back g n small

  generation_is : generation_in bits ≡ g
  generation_is = ap generation_in given.bits_are ∙ generation_back g n small

  nonzero : generation_in bits ≡ 0 → ⊥
  nonzero e = given.nonzero (sym generation_is ∙ e)

  alive : live left (generation_in bits) (number_in bits) ≡ true
  alive = rw (number_is, generation_is) given.settled_now.lives

  there : place_at left (number_in bits) ≡ place_of a (count_of s.rows a)
  there = rw number_is given.settled_now.place_is

  in_archetype : archetype_at left (number_in bits) ≡ a
  in_archetype = archetype_is left (number_in bits) a (count_of s.rows a) there

  pub spawn_read : length run ≡ row_width s.decl a → (c : ℕ) → column_of (types_of s.decl a) t ≡ Some c
      → read_bytes (with_entity s a run) (next_ids s a).0 t ≡ granted (cell run (width (take c (sizes_of s.decl a))) (size_of s.decl a c))
  spawn_read long c e =
      read_held (spawned_sound sound k run) bits t nonzero alive c (rw in_archetype e) (not_unique s.words k.no_word _)
      ∙ ap granted
      (rw (in_archetype, row_is left (number_in bits) a (count_of s.rows a) there)
      (taken_run s.decl s.rows a (next_number s.ids) run (sound_entered sound).rows k.archetype_in k.row_unused long c (column_in s.decl a t c (sound_entered sound).rows.tabled.kept e)))

  pub spawn_lacks : column_of (types_of s.decl a) t ≡ None → read_bytes (with_entity s a run) (next_ids s a).0 t ≡ refused 15
  spawn_lacks e = read_missing (spawned_sound sound k run) bits t nonzero alive (rw in_archetype e)

-- Despawn: its handle reads 2.
pub despawn_read : {s : Store} (sound : Sound s) (bits : ℕ) → DespawnOk s (generation_in bits) (number_in bits) → (generation_in bits ≡ 0 → ⊥) → (t : ℕ)
    → read_bytes (without_entity s (generation_in bits) (number_in bits)) bits t ≡ refused 2
despawn_read {s} sound bits k nz t =
    let freed = free_leaves (vacated s (archetype_of s (number_in bits)) (row_of s (number_in bits))).ids (generation_in bits) (number_in bits) (can_free sound k) in
    read_absent (ended_sound sound k) bits t nz (freed.not_live (generation_in bits)) (none_new (freed_ids (vacated s (archetype_of s (number_in bits)) (row_of s (number_in bits))).ids (generation_in bits) (number_in bits)) (generation_in bits) (number_in bits) freed.is_flushed)
