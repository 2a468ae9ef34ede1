-- What a flush and an alloc many leave: the numbers that they place have their rows, and every other number is as it was.
-- Assumes nothing.
use Prim.Native.Nat.{ℕ, zero, suc, ◌+◌, ◌-◌, ◌<◌, ◌≤◌}
use mathlib.Core.Path.{◌≡◌, refl, sym, ◌∙◌}
use mathlib.Core.List.{List, [], ◌∷◌, ◌++◌}
use native.Mathlib.Omega.{arith}
use native.Mathlib.Nat.{not-suc-le-zero, le_of_suc-le-suc}
use lib.ListN.{length, get_or, set, replicate, length-set, length-replicate, get_or-replicate}
use lib.Seq.{get_or-set_same, get_or-set_other}
use Rattle.handle.specs.Bits.{place_of}
use Rattle.id_tables.specs.Head.{free_of, new_of, flushed_head}
use Rattle.id_tables.specs.Ids.{Ids, capacity, generation_at, place_at, EntryOk}
use Rattle.id_tables.specs.Lookup.{reserved_old}
use Rattle.id_tables.specs.Runs.{up_from, length_up_from, up_from_at}
use Rattle.id_tables.proofs.Meaning.{flushed_free, flushed_new}
use Rattle.id_tables.proofs.Damage.{none_damaged}
use Rattle.id_batches.specs.Seating.{set_each, seated}
use Rattle.id_batches.specs.Flush.{reserved_fresh, flushed_ids}
use Rattle.id_batches.specs.AllocMany.{last_pending, new_numbers, alloced_ids}
use Rattle.id_batches.proofs.Setting.{set_long}
use Rattle.id_batches.proofs.Numbers.{Each, Absent, Last, Different, PendingDiffer, each_two, slice_different, up_each, up_different, new_first, new_last}
use Rattle.id_batches.proofs.Granted.{FlushOk, AllocManyOk}

-- an entry that is not among those that are set stays
pub set_other : (l ns vs : List ℕ) (m : ℕ) → Absent m ns → get_or (set_each l ns vs) m 0 ≡ get_or l m 0
unfolding set_each
set_other l [] vs m a = refl
set_other l (n ∷ ns) [] m a = refl
set_other l (n ∷ ns) (v ∷ vs) m a = set_other (set l n v) ns vs m (λ i h. a (suc i) (omega arith)) ∙ get_or-set_other l n m v 0 (λ e. a 0 (omega arith) (sym e))

-- the one that stands at i, and not again, has the value that stands at i
pub set_here : (l ns vs : List ℕ) (i : ℕ) → i < length ns → i < length vs → get_or ns i 0 < length l → Last ns i
    → get_or (set_each l ns vs) (get_or ns i 0) 0 ≡ get_or vs i 0
unfolding set_each
set_here l [] vs i h k b d = absurd (not-suc-le-zero h)
set_here l (n ∷ ns) [] i h k b d = absurd (not-suc-le-zero k)
set_here l (n ∷ ns) (v ∷ vs) zero h k b d = set_other (set l n v) ns vs n (λ j g e. d (suc j) (omega arith) (omega arith) (sym e)) ∙ get_or-set_same l n v 0 b
set_here l (n ∷ ns) (v ∷ vs) (suc i) h k b d =
    set_here (set l n v) ns vs i (le_of_suc-le-suc h) (le_of_suc-le-suc k) (rw (length-set l n v) b) (λ j g f. d (suc j) (omega arith) (omega arith))

-- t is s with these numbers, the new ones among them, at successive rows of an archetype. A number that stands twice has the later row.
pub record Seats (s t : Ids) (new numbers : List ℕ) (archetype first : ℕ) : Type 0 where
  pub ok : EntryOk t
  pub place : (i : ℕ) → i < length numbers → Last numbers i → place_at t (get_or numbers i 0) ≡ place_of archetype (first + i)
  pub other_place : (m : ℕ) → Absent m numbers → place_at t m ≡ place_at s m
  pub generation : (i : ℕ) → i < length new → generation_at t (get_or new i 0) ≡ 1
  pub other_generation : (m : ℕ) → Absent m new → generation_at t m ≡ generation_at s m
  pub pending_same : t.pending ≡ s.pending

-- new numbers from `from` up, beside numbers of the tables
module _ (s : Ids) (used pending live from count : ℕ) (numbers : List ℕ) (archetype first : ℕ) (ok : EntryOk s) where
  abbrev new : List ℕ
  new = up_from from count

  abbrev t : Ids
  t = seated s (flushed_head used pending live) new numbers archetype first

  seated_ok : used ≤ capacity s → pending ≤ used → live ≡ used - pending → EntryOk t
  seated_ok u p l =
      let g : length t.generations ≡ length s.generations = set_long s.generations new (replicate (length new) 1) in
      record {
        small = omega (arith, ok.small);
        archetypes_long = set_long s.archetypes numbers (replicate (length numbers) archetype) ∙ ok.archetypes_long ∙ sym g;
        indices_long = set_long s.indices numbers (up_from first (length numbers)) ∙ ok.indices_long ∙ sym g;
        pending_long = ok.pending_long ∙ sym g;
        used_in = omega arith;
        pending_in = p;
        free_in = omega arith;
        new_in = omega arith;
        live_is = l;
      }

  seats : EntryOk t → Each (λ m. m < capacity s) numbers → from + count ≤ capacity s → Seats s t new numbers archetype first
  seats after b c =
      record {
        ok = after;
        place = λ i h d.
            rw (set_here s.archetypes numbers (replicate (length numbers) archetype) i h (rw (length-replicate (length numbers) archetype) h) (omega (arith, b i h)) d, set_here s.indices numbers (up_from first (length numbers)) i h (rw (length_up_from first (length numbers)) h) (omega (arith, b i h)) d, get_or-replicate (length numbers) i archetype 0 h, up_from_at first (length numbers) i h);
        other_place = λ m a. rw (set_other s.archetypes numbers (replicate (length numbers) archetype) m a, set_other s.indices numbers (up_from first (length numbers)) m a);
        generation = λ i h.
            set_here s.generations new (replicate (length new) 1) i h (rw (length-replicate {A = ℕ} (length new) 1) h) (up_each from count (λ m. m < capacity s) (λ j l. omega arith) i h) (up_different from count i)
            ∙ get_or-replicate (length new) i 1 0 h;
        other_generation = λ m a. set_other s.generations new (replicate (length new) 1) m a;
        pending_same = refl;
      }

-- a flush
module _ (s : Ids) (first : ℕ) (m : FlushOk s first) where
  old_below : Each (λ n. n < s.head.used) (reserved_old s)
  old_below i h = (none_damaged _ _ _ (reserved_old s) m.whole i h).below

  pub flush_seats : (archetype : ℕ) → Seats s (flushed_ids s archetype first) (reserved_fresh s) (reserved_fresh s ++ reserved_old s) archetype first
  flush_seats archetype =
      let ok = m.ok in
      let numbers = reserved_fresh s ++ reserved_old s in
      seats s _ _ _ _ _ numbers archetype first ok (seated_ok s _ _ _ _ _ numbers archetype first ok (omega arith) (omega arith) (omega arith))
      (each_two (λ n. n < capacity s) (reserved_fresh s) (reserved_old s) (up_each s.head.used (new_of s.head.cursor) (λ n. n < capacity s) (λ i h. omega arith)) (λ i h. omega (arith, old_below i h)))
      (omega arith)

  pub flush_different : PendingDiffer s → Different (reserved_fresh s ++ reserved_old s)
  flush_different d =
      let ok = m.ok in
      new_first s.head.used (new_of s.head.cursor) (reserved_old s) (slice_different (free_of s.head.cursor) s.head.pending s.pending (omega arith) d) old_below

-- an alloc many
module _ (s : Ids) (n first : ℕ) (m : AllocManyOk s n first) where
  last_below : Each (λ k. k < s.head.used) (last_pending s n)
  last_below i h = (none_damaged _ _ _ (last_pending s n) m.whole i h).below

  room_is : n ≤ s.head.pending + (capacity s - s.head.used)
  room_is = omega (arith, m.room_in, flushed_free s.head m.is_flushed, flushed_new s.head m.is_flushed)

  pub many_seats : (archetype : ℕ) → Seats s (alloced_ids s n archetype first) (new_numbers s n) (last_pending s n ++ new_numbers s n) archetype first
  many_seats archetype =
      let ok = m.ok in
      let r = room_is in
      let numbers = last_pending s n ++ new_numbers s n in
      seats s _ _ _ _ _ numbers archetype first ok (seated_ok s _ _ _ _ _ numbers archetype first ok (omega arith) (omega arith) (omega arith))
      (each_two (λ k. k < capacity s) (last_pending s n) (new_numbers s n) (λ i h. omega (arith, last_below i h)) (up_each s.head.used (n - s.head.pending) (λ k. k < capacity s) (λ i h. omega arith)))
      (omega arith)

  pub many_different : PendingDiffer s → Different (last_pending s n ++ new_numbers s n)
  many_different d =
      let ok = m.ok in
      new_last s.head.used (n - s.head.pending) (last_pending s n) (slice_different (s.head.pending - n) s.head.pending s.pending (omega arith) d) last_below
