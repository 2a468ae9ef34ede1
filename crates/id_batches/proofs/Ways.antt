-- The ways through the rules past the first tests, over plain values.
-- Assumes nothing.
use Prim.{tt}
use Prim.Native.Nat.{ℕ, ◌+◌, ◌-◌, ◌^◌, ◌<◌, ◌≤◌}
use native.Mathlib.Nat.{add-zero, sub-zero}
use mathlib.Core.Path.{◌≡◌, ◌∙◌}
use mathlib.Core.Bool.{true, false}
use mathlib.Core.List.{List}
use mathlib.Core.Option.{none, some}
use lib.Dec.{ltb}
use lib.ListN.{length, get_or, replicate}
use lib.Seq.{slice, length-slice}
use native.Mathlib.Omega.{arith}
use borrow.Author.Tests.{ltb-false, lt-ltb, le-ltb, le-leb, lt-leb}
use Rattle.refusal.specs.Table.{granted, refused, ◌or_else◌, passing, Did}
use Rattle.refusal.specs.Laws.{grant}
use Rattle.handle.specs.Bits.{MAX}
use Rattle.id_tables.specs.declared.head.Head.{Head}
use Rattle.id_tables.specs.Head.{free_of, new_of, flushed, flushed_head, fallen_fit}
use Rattle.id_tables.specs.Ids.{Ids, ids_of, entry, room, any_damaged, EntryOk}
use Rattle.id_tables.specs.Lookup.{reserved_old}
use Rattle.id_tables.specs.Runs.{up_from, length_up_from, any_past}
use Rattle.id_tables.proofs.Entering.{entry_ok, entry_long}
use Rattle.id_tables.proofs.Meaning.{flushed_free, flushed_new}
use Rattle.id_tables.proofs.Falling.{falls_in}
use Rattle.id_tables.proofs.Damage.{none_past}
use Rattle.id_tables.proofs.Parts.{part, part_is}
use Rattle.id_batches.specs.declared.many.AllocManyState.{AllocManyState}
use Rattle.id_batches.specs.Seating.{set_each, set_all, set_rows}
use Rattle.id_batches.specs.Reserve.{old_handles, new_handles, entities_reserved}
use Rattle.id_batches.specs.Freelist.{free_listed}
use Rattle.id_batches.specs.AllocMany.{last_pending, new_numbers, state_of, many_state, alloced_ids, many_alloced, walking}
use Rattle.id_batches.specs.Flush.{reserved_fresh, reserved_count, reserved_placed}
use Rattle.id_batches.proofs.Setting.{set_long, all_two, rows_two, old_front, both_front}

-- what passing the first tests gives, with an output of a places where b are asked for
pub entered : (s : Ids) (a b : ℕ) → granted tt ≡ passing (entry s (ltb a b)) → EntryOk s × (b ≤ a)
entered s a b e = (entry_ok s _ e, ltb-false a b (entry_long s _ e))

-- flush: the code's counts are those of the cursor
module _ (s : Ids) (archetype first free fresh : ℕ) (f : free ≡ free_of s.head.cursor) (k : fresh ≡ new_of s.head.cursor) where
  pub flush_past : MAX - first < fresh + (s.head.pending - free) → reserved_placed s archetype first ≡ refused 6
  unfolding reserved_placed ◌or_else◌
  flush_past h = simp (lt-ltb MAX (first + reserved_count s) (omega arith))

  module _ (small : first < 2 ^ 32) (h : fresh + (s.head.pending - free) ≤ MAX - first) where
    within : first + reserved_count s ≤ MAX
    within = omega arith

    pub flush_damaged : any_damaged s (part free s.head.pending s.pending) ≡ true → reserved_placed s archetype first ≡ refused 1
    unfolding reserved_placed ◌or_else◌
    flush_damaged d = simp (le-ltb MAX (first + reserved_count s) within, rw (part_is free s.head.pending s.pending, f) at d)

    pub flush_done : (head : Head) (g a x a' x' : List ℕ) → any_damaged s (part free s.head.pending s.pending) ≡ false
        → (g ≡ set_all s.generations (up_from s.head.used fresh) 1) × (a ≡ set_all s.archetypes (up_from s.head.used fresh) archetype) × (x ≡ set_rows s.indices (up_from s.head.used fresh) first)
        → (a' ≡ set_all a (part free s.head.pending s.pending) archetype) × (x' ≡ set_rows x (part free s.head.pending s.pending) (first + fresh))
        → head ≡ flushed_head (s.head.used + fresh) free (s.head.live + (fresh + (s.head.pending - free)))
        → Did (reserved_placed s archetype first) s (granted tt) (ids_of head g a' x' s.pending)
    unfolding reserved_placed ◌or_else◌
    flush_done head g a x a' x' d new old e =
        rw (e, old.0, old.1, new.0, new.1, new.2, part_is free s.head.pending s.pending, f, k)
        (grant (simp (le-ltb MAX (first + reserved_count s) within, rw (part_is free s.head.pending s.pending, f) at d)
        (rw (all_two s.archetypes (reserved_fresh s) (reserved_old s) archetype, rows_two s.indices (reserved_fresh s) (reserved_old s) first, length_up_from s.head.used (new_of s.head.cursor)))))

-- numbers none of which is damaged are in the tables, also once new ones have been placed there
pub flush_below : (s : Ids) (ns : List ℕ) (fresh archetype first : ℕ) (g a x : List ℕ) → EntryOk s → any_damaged s ns ≡ false
    → (g ≡ set_all s.generations (up_from s.head.used fresh) 1) × (a ≡ set_all s.archetypes (up_from s.head.used fresh) archetype) × (x ≡ set_rows s.indices (up_from s.head.used fresh) first)
    → (any_past (length a) ns ≡ false) × (any_past (length x) ns ≡ false)
flush_below s ns fresh archetype first g a x ok d new =
    let b = set_long s.archetypes (up_from s.head.used fresh) (replicate (length (up_from s.head.used fresh)) archetype) in
    let c = set_long s.indices (up_from s.head.used fresh) (up_from first (length (up_from s.head.used fresh))) in
    (rw (new.1, b) (none_past _ _ _ ns d (length s.archetypes) (omega arith)), rw (new.2, c) (none_past _ _ _ ns d (length s.indices) (omega arith)))

-- alloc many
module _ (s : Ids) (n left : ℕ) (l : left ≡ s.head.pending - n) where
  pub many_whole : any_damaged s (part left s.head.pending s.pending) ≡ false → any_damaged s (last_pending s n) ≡ false
  many_whole d = rw (part_is left s.head.pending s.pending, l) at d

  pub many_below : EntryOk s → any_damaged s (last_pending s n) ≡ false
      → (any_past (length s.archetypes) (part left s.head.pending s.pending) ≡ false) × (any_past (length s.indices) (part left s.head.pending s.pending) ≡ false)
  many_below ok d =
      rw (part_is left s.head.pending s.pending, l)
      (none_past _ _ _ (last_pending s n) d (length s.archetypes) (omega arith), none_past _ _ _ (last_pending s n) d (length s.indices) (omega arith))

module _ (s : Ids) (n archetype first : ℕ) where
  pub many_unflushed : flushed s.head ≡ false → many_alloced s n archetype first ≡ refused 3
  unfolding many_alloced ◌or_else◌
  many_unflushed f = simp f

  module _ (f : flushed s.head ≡ true) where
    pub many_past : MAX - first < n → many_alloced s n archetype first ≡ refused 6
    unfolding many_alloced ◌or_else◌
    many_past h = simp (f, lt-ltb MAX (first + n) (omega arith))

    module _ (small : first < 2 ^ 32) (h : n ≤ MAX - first) where
      room_is : room s ≡ s.head.pending + (length s.generations - s.head.used)
      room_is = rw (flushed_free s.head f, flushed_new s.head f, add-zero s.head.used)

      pub many_full : s.head.pending + (length s.generations - s.head.used) < n → many_alloced s n archetype first ≡ refused 4
      unfolding many_alloced ◌or_else◌
      many_full r = simp (f, le-ltb MAX (first + n) (omega arith), lt-ltb (room s) n (omega (arith, room_is)))

      module _ (r : n ≤ s.head.pending + (length s.generations - s.head.used)) (left : ℕ) (l : left ≡ s.head.pending - n) where
        pub many_damaged : any_damaged s (part left s.head.pending s.pending) ≡ true → many_alloced s n archetype first ≡ refused 1
        unfolding many_alloced ◌or_else◌
        many_damaged d =
            simp (f, le-ltb MAX (first + n) (omega arith), le-ltb (room s) n (omega (arith, room_is)), rw (part_is left s.head.pending s.pending, l) at d)

        pub many_done : (w : AllocManyState) (left' : Ids) → any_damaged s (part left s.head.pending s.pending) ≡ false
            → (w ≡ many_state s n) × (left' ≡ alloced_ids s n archetype first) → Did (many_alloced s n archetype first) s (granted w) left'
        unfolding many_alloced ◌or_else◌
        many_done w left' d e =
            rw (e.0, e.1)
            (grant (simp (f, le-ltb MAX (first + n) (omega arith), le-ltb (room s) n (omega (arith, room_is)), rw (part_is left s.head.pending s.pending, l) at d)))

-- both parts of what it takes are seated, and the state walks them
pub many_seated : (s : Ids) (n archetype first left fresh : ℕ) → left ≡ s.head.pending - n → fresh ≡ n - s.head.pending → EntryOk s
    → (head : Head) (g a x a' x' : List ℕ)
    → (a ≡ set_all s.archetypes (part left s.head.pending s.pending) archetype) × (x ≡ set_rows s.indices (part left s.head.pending s.pending) first)
    → (g ≡ set_all s.generations (up_from s.head.used fresh) 1) × (a' ≡ set_all a (up_from s.head.used fresh) archetype) × (x' ≡ set_rows x (up_from s.head.used fresh) (first + (s.head.pending - left)))
    → head ≡ flushed_head (s.head.used + fresh) left (s.head.live + n)
    → (state_of left s.head.pending s.head.used (s.head.used + fresh) ≡ many_state s n) × (ids_of head g a' x' s.pending ≡ alloced_ids s n archetype first)
many_seated s n archetype first left fresh l k ok head g a x a' x' old new e =
    (rw (l, k), rw (e, new.0, new.1, new.2, old.0, old.1, part_is left s.head.pending s.pending, l, k, all_two s.archetypes (last_pending s n) (new_numbers s n) archetype, rows_two s.indices (last_pending s n) (new_numbers s n) first, length-slice (s.head.pending - n) s.head.pending s.pending (omega arith)))

-- a step of the walk
module _ (w : AllocManyState) (pending : List ℕ) where
  pub walk_short : w.position < w.top → length pending ≤ w.position → walking w pending ≡ refused 13
  unfolding walking ◌or_else◌
  walk_short h k = simp (lt-ltb _ _ h, le-leb _ _ k)

  pub walk_old : w.position < w.top → w.position < length pending → walking w pending ≡ granted (some (get_or pending w.position 0), state_of (w.position + 1) w.top w.number w.end)
  unfolding walking ◌or_else◌
  walk_old h k = simp (lt-ltb _ _ h, lt-leb _ _ k)

  pub walk_new : w.top ≤ w.position → w.number < w.end → walking w pending ≡ granted (some w.number, state_of w.position w.top (w.number + 1) w.end)
  unfolding walking ◌or_else◌
  walk_new h k = simp (le-ltb _ _ h, lt-ltb _ _ k)

  pub walk_done : w.top ≤ w.position → w.end ≤ w.number → walking w pending ≡ granted (none, w)
  unfolding walking ◌or_else◌
  walk_done h k = simp (le-ltb _ _ h, le-ltb _ _ k)

-- the free list
module _ (s : Ids) (out : List ℕ) (free : ℕ) (f : free ≡ free_of s.head.cursor) where
  pub list_damaged : any_damaged s (part 0 free s.pending) ≡ true → free_listed s out ≡ refused 1
  unfolding free_listed ◌or_else◌
  list_damaged d = simp (rw (part_is 0 free s.pending, f) at d)

  pub list_done : (out' : List ℕ) → EntryOk s → free ≤ length out → any_damaged s (part 0 free s.pending) ≡ false
      → out' ≡ set_each out (up_from 0 (length (part 0 free s.pending))) (old_handles s.generations (part 0 free s.pending)) → Did (free_listed s out) out (granted free) out'
  unfolding free_listed ◌or_else◌
  list_done out' ok h d e =
      rw (e, part_is 0 free s.pending, old_front s.generations (slice 0 free s.pending) (length-slice 0 free s.pending (omega arith) ∙ sub-zero free) out h, f)
      (grant (simp (rw (part_is 0 free s.pending, f) at d)))

-- a reservation
module _ (s : Ids) (n : ℕ) (out : List ℕ) (free fresh : ℕ) (f : free ≡ free_of s.head.cursor) (k : fresh ≡ new_of s.head.cursor) where
  pub reserve_full : free + (length s.generations - (s.head.used + fresh)) < n → entities_reserved s n out ≡ refused 4
  unfolding entities_reserved ◌or_else◌
  reserve_full h = simp (lt-ltb (room s) n (omega arith))

  module _ (r : n ≤ free + (length s.generations - (s.head.used + fresh))) (from : ℕ) (m : from ≡ free - n) where
    pub reserve_damaged : any_damaged s (part from free s.pending) ≡ true → entities_reserved s n out ≡ refused 1
    unfolding entities_reserved ◌or_else◌
    reserve_damaged d = simp (le-ltb (room s) n (omega arith), rw (part_is from free s.pending, m, f) at d)

    pub reserve_done : (head : Head) (count : ℕ) (out₁ out₂ : List ℕ) → EntryOk s → n ≤ length out → any_damaged s (part from free s.pending) ≡ false
        → out₁ ≡ set_each out (up_from 0 (length (part from free s.pending))) (old_handles s.generations (part from free s.pending))
        → count ≡ n - free
        → out₂ ≡ set_each out₁ (up_from (free - from) count) (new_handles (up_from (s.head.used + fresh) count))
        → head ≡ fallen_fit s.head n
        → Did (entities_reserved s n out) (s, out) (granted tt) (ids_of head s.generations s.archetypes s.indices s.pending, out₂)
    unfolding entities_reserved ◌or_else◌
    reserve_done head count out₁ out₂ ok h d old q new e =
        rw (e, falls_in s n ok (omega arith), new, old, part_is from free s.pending, both_front s.generations (slice from free s.pending) (length-slice from free s.pending (omega arith)) out (up_from (s.head.used + fresh) count) count n (length_up_from (s.head.used + fresh) count) (omega arith) h, m, q, f, k)
        (grant (simp (le-ltb (room s) n (omega arith), rw (part_is from free s.pending, m, f) at d)))
