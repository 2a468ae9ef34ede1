-- What the calls on one number grant and leave, for callers that do not open the rules.
-- Assumes nothing.
use Prim.Native.Nat.{ℕ, ◌+◌, ◌-◌, ◌<◌, ◌≤◌}
use mathlib.Core.Path.{◌≡◌, refl, sym, ◌∙◌}
use mathlib.Core.Bool.{true, false, cond, ◌&&◌}
use mathlib.Core.Option.{Option, none, some}
use native.Mathlib.Omega.{arith}
use borrow.Author.Tests.{ltb-false, eqb-false, not-false, lt-ltb, le-ltb, lt-leb, le-leb, ne_eqb}
use lib.ListN.{length-set}
use lib.Seq.{slice-cons}
use Rattle.refusal.specs.Table.{granted, ◌or_else◌}
use Rattle.refusal.specs.Laws.{passed_all, value_of_lem, go, both, none_holds}
use Rattle.handle.specs.Bits.{MAX, bits_of, generation_in, number_in}
use Rattle.handle.specs.declared.Place.{Place}
use Rattle.id_tables.specs.declared.head.Head.{Head}
use Rattle.id_tables.specs.Head.{free_of, new_of}
use Rattle.id_tables.specs.Ids.{Ids, entry, capacity, room, damaged, generation_at, index_at, place_at, live, EntryOk}
use Rattle.id_tables.specs.Lookup.{any_is, reserved_old, is_contained}
use Rattle.id_tables.proofs.Entering.{entry_ok}
use Rattle.id_tables.proofs.Falling.{free_fallen, new_fallen, fallen_ok, fallen_room}
use Rattle.id_tables.proofs.Meaning.{Undamaged, undamaged, not_damaged, lives, is_live, past_not_live, empty_not_live, ok_passes}
use Rattle.id_tables.proofs.Laws.{Entered, at_rest, entered, any_at, is_old, is_new_lem, old_contained, new_contained}
use Rattle.ids.specs.Reserve.{has_free, last_free, reserved_number, reserved_generation, reserved_ids, reserving}
use Rattle.ids.specs.Alloc.{has_pending, last_pending, settled, popped, grown, alloc_rules, allocated_last, allocated_new, allocating}
use Rattle.ids.specs.AllocAt.{pending_at, stretched, taken_out, chosen_damaged, allocated_at, chosen_rules, alloc_at, allocating_at}
use Rattle.ids.specs.Free.{freed_ids, freed, freeing}
use Rattle.ids.proofs.Passing.{flushed_room, ReserveOk, AllocOk, alloc_ok, ChosenOk, chosen_ok, FreeOk}
use Rattle.ids.proofs.Listing.{none_or_some, below_or_not}
use Rattle.ids.proofs.Leaving.{Settled, Released, settles, grown_settles, fewer_settles, stretched_settles, same_kept, placed_settled, frees}

-- Reserve one
module _ (s : Ids) where
  abbrev reserved : ℕ × Ids
  reserved = (bits_of (reserved_generation s) (reserved_number s), reserved_ids s)

  pub reserving_parts : {x : ℕ × Ids} → granted x ≡ reserving s → ReserveOk s × (x ≡ reserved)
  unfolding reserving
  reserving_parts e =
      let b = both (entry s false) _ (passed_all _ _ e).0 in
      let p = none_holds _ b.1 in (
        record {
          ok = entry_ok s false b.0;
          has_room = ltb-false _ _ p.0;
          free_good = λ k. undamaged _ _ _ _ (simp (lt-ltb 0 (free_of s.head.cursor) k) at p.1.0);
        },
        value_of_lem _ _ e,
      )

  pub reserving_at : ReserveOk s → reserving s ≡ granted reserved
  unfolding reserving ◌or_else◌
  reserving_at r = go (entry s false) _ _ (sym (ok_passes s r.ok)) ∙ simp (le-ltb (room s) 1 r.has_room, good)
    where
      good : (has_free s && damaged s (last_free s)) ≡ false
      good = none_or_some (free_of s.head.cursor) (λ z. rw (le-ltb 0 (free_of s.head.cursor) (omega arith))) (λ h. rw (lt-ltb 0 (free_of s.head.cursor) h) (not_damaged _ _ _ _ (r.free_good h)))

  -- which number it is
  pub reserved_free : 0 < free_of s.head.cursor → (reserved_number s ≡ last_free s) × (reserved_generation s ≡ generation_at s (last_free s))
  reserved_free h = rw (lt-ltb 0 (free_of s.head.cursor) h) (refl, refl)

  pub reserved_new_lem : free_of s.head.cursor ≡ 0 → (reserved_number s ≡ s.head.used + new_of s.head.cursor) × (reserved_generation s ≡ 1)
  reserved_new_lem h = rw (le-ltb 0 (free_of s.head.cursor) (omega arith)) (refl, refl)

-- the reserved number and what is left: a number within the capacity that is live at no generation, and is contained now
module _ (s : Ids) (r : ReserveOk s) where
  pub reserved_in : reserved_number s < capacity s
  reserved_in =
      none_or_some (free_of s.head.cursor) (λ z. rw (reserved_new_lem s z).0 (omega (arith, r.has_room)))
      (λ h. rw (reserved_free s h).0 (omega (arith, (r.free_good h).below, r.ok.used_in)))

  pub reserved_nonzero : reserved_generation s ≡ 0 → ⊥
  reserved_nonzero e =
      none_or_some (free_of s.head.cursor) (λ z. omega (arith, (reserved_new_lem s z).1)) (λ h. (r.free_good h).generation (sym (reserved_free s h).1 ∙ e))

  pub reserved_not_live : (g : ℕ) → live s g (reserved_number s) ≡ false
  reserved_not_live g =
      none_or_some (free_of s.head.cursor) (λ z. rw (reserved_new_lem s z).0 (past_not_live _ _ _ g _ (omega arith)))
      (λ h. rw (reserved_free s h).0 (empty_not_live _ _ _ g _ (r.free_good h).index))

  pub reserved_ok : EntryOk (reserved_ids s)
  reserved_ok = fallen_ok s 1 r.ok r.has_room

  pub reserved_room : room (reserved_ids s) ≡ room s - 1
  reserved_room = fallen_room s 1 r.ok r.has_room

  -- the entry that was the last free one is the first that is reserved
  now_listed : 0 < free_of s.head.cursor → any_is (last_free s) (reserved_old (reserved_ids s)) ≡ true
  now_listed h =
      let q = slice-cons (free_of s.head.cursor - 1) s.head.pending s.pending 0 (omega (arith, r.ok.free_in)) (omega (arith, r.ok.pending_long, r.ok.used_in, r.ok.pending_in)) in
      any_at (last_free s) (reserved_old (reserved_ids s)) 0 (rw (free_fallen s.head.cursor 1, q) (omega arith)) (rw (free_fallen s.head.cursor 1, q))

  pub reserved_contained : is_contained (reserved_ids s) (reserved_generation s) (reserved_number s) ≡ true
  reserved_contained =
      none_or_some (free_of s.head.cursor)
      (λ z. rw ((reserved_new_lem s z).0, (reserved_new_lem s z).1)
      (new_contained (reserved_ids s) _ _ (is_new_lem (reserved_ids s) _ _ (record { generation = refl; past_used = omega arith; within = omega (arith, new_fallen s.head.cursor 1) }))))
      (λ h. rw ((reserved_free s h).0, (reserved_free s h).1)
      (old_contained (reserved_ids s) _ _ (is_old (reserved_ids s) _ _ (record { below = (r.free_good h).below; generation = refl; listed = now_listed h }))))

-- Alloc: which number it gives, with which generation
abbrev pub alloc_number : Ids → ℕ
alloc_number s = cond (has_pending s) (last_pending s) s.head.used

abbrev pub alloc_generation : Ids → ℕ
alloc_generation s = cond (has_pending s) (generation_at s (last_pending s)) 1

-- the counts that it leaves
abbrev pub alloc_head : Ids → Head
alloc_head s = cond (has_pending s) (popped s).head (grown s).head

-- number n, which was live at no generation, is given with generation g and is live at the place; the head is as said and the pending table stays
pub record Alloced (s : Ids) (place : Place) (n g : ℕ) (left : Head) (bits : ℕ) (t : Ids) : Type 0 where
  pub bits_are : bits ≡ bits_of g n
  pub number_in_lem : n < capacity s
  pub nonzero : g ≡ 0 → ⊥
  pub was_not_live : (h : ℕ) → live s h n ≡ false
  pub settled_now : Settled s n g place t
  pub head_is : t.head ≡ left
  pub pending_kept : t.pending ≡ s.pending

module _ (s : Ids) (place : Place) where
  abbrev alloced : ℕ × Ids
  alloced = cond (has_pending s) (allocated_last s place) (allocated_new s place)

  pub allocating_parts : {x : ℕ × Ids} → granted x ≡ allocating s place → AllocOk s place × (x ≡ alloced)
  unfolding allocating
  allocating_parts e = (alloc_ok s place (passed_all _ _ e).0, value_of_lem _ _ e)

  pub allocating_at_lem : AllocOk s place → allocating s place ≡ granted alloced
  unfolding allocating alloc_rules ◌or_else◌
  allocating_at_lem a =
      go (entry s false) _ _ (sym (ok_passes s a.ok)) ∙ simp (a.is_flushed, lt-leb _ _ a.index_in, le-ltb (room s) 1 a.has_room, good)
    where
      good : (has_pending s && damaged s (last_pending s)) ≡ false
      good = none_or_some s.head.pending (λ z. rw (le-ltb 0 s.head.pending (omega arith))) (λ h. rw (lt-ltb 0 s.head.pending h) (not_damaged _ _ _ _ (a.last_good h)))

  module _ (a : AllocOk s place) where
    new_alloced : s.head.pending ≡ 0 → Alloced s place s.head.used 1 (grown s).head (allocated_new s place).0 (allocated_new s place).1
    new_alloced z =
        let k : s.head.used < capacity s = omega (arith, a.has_room, flushed_room s a.is_flushed) in
        record {
          bits_are = refl;
          number_in_lem = k;
          nonzero = λ e. omega arith;
          was_not_live = λ h. past_not_live _ _ _ h _ (omega arith);
          settled_now = grown_settles s place a.ok k a.index_in;
          head_is = refl;
          pending_kept = refl;
        }

    last_alloced : 0 < s.head.pending
        → Alloced s place (last_pending s) (generation_at s (last_pending s)) (popped s).head (allocated_last s place).0 (allocated_last s place).1
    last_alloced h =
        let u = a.last_good h in
        record {
          bits_are = refl;
          number_in_lem = omega (arith, u.below, a.ok.used_in);
          nonzero = u.generation;
          was_not_live = λ g. empty_not_live _ _ _ g _ u.index;
          settled_now =
              rw (placed_settled (popped s) (last_pending s) place) (fewer_settles s (last_pending s) _ place s.pending a.ok h u.below a.index_in refl);
          head_is = refl;
          pending_kept = refl;
        }

    pub alloc_leaves : Alloced s place (alloc_number s) (alloc_generation s) (alloc_head s) alloced.0 alloced.1
    alloc_leaves =
        none_or_some s.head.pending (λ z. rw (le-ltb 0 s.head.pending (omega arith)) (new_alloced z))
        (λ h. rw (lt-ltb 0 s.head.pending h) (last_alloced h))

-- Free
module _ (s : Ids) where
  pub freed_parts : (g n : ℕ) {x : Place × Ids} → EntryOk s → granted x ≡ freed s g n → FreeOk s g n × (x ≡ (place_at s n, freed_ids s g n))
  unfolding freed
  freed_parts g n ok e =
      let p = none_holds _ (passed_all _ _ e).0 in
      (record { ok = ok; is_flushed = not-false _ p.0; lives = not-false _ p.1.0; some_live = eqb-false _ _ p.1.1.0 }, value_of_lem _ _ e)

  pub freed_at : (g n : ℕ) → FreeOk s g n → freed s g n ≡ granted (place_at s n, freed_ids s g n)
  unfolding freed ◌or_else◌
  freed_at g n f = simp (f.is_flushed, f.lives, ne_eqb _ _ f.some_live)

  -- the number is released
  pub free_leaves : (g n : ℕ) → FreeOk s g n → Released s n g (freed_ids s g n)
  free_leaves g n f = frees s n g f.ok (lives _ _ _ g n f.lives).below f.some_live

  pub freeing_parts : (bits : ℕ) {x : Place × Ids} → granted x ≡ freeing s bits
      → Entered s bits × FreeOk s (generation_in bits) (number_in bits) × (x ≡ (place_at s (number_in bits), freed_ids s (generation_in bits) (number_in bits)))
  unfolding freeing
  freeing_parts bits e =
      let a = entered s bits _ e in
      let b = freed_parts _ _ (entry_ok s false a.0.passes) a.1 in
      (a.0, b.0, b.1)

  pub freeing_at : (bits : ℕ) → Entered s bits → FreeOk s (generation_in bits) (number_in bits)
      → freeing s bits ≡ granted (place_at s (number_in bits), freed_ids s (generation_in bits) (number_in bits))
  unfolding freeing
  freeing_at bits t f = at_rest s bits _ t ∙ freed_at _ _ f

-- Alloc at: the chosen number is past used, or pending and undamaged, or it has a place
pub record Undoubted (s : Ids) (n : ℕ) : Type 0 where
  pub pending_good : n < s.head.used → pending_at s n < s.head.pending → Undamaged s.head.used s.generations s.indices n
  pub placed_good : n < s.head.used → s.head.pending ≤ pending_at s n → index_at s n ≡ MAX → ⊥

module _ (s : Ids) where
  pub chosen_good : (n : ℕ) → chosen_damaged s n ≡ false → Undoubted s n
  chosen_good n e =
      record {
        pending_good = λ h k. undamaged _ _ _ _ (simp (lt-ltb _ _ h, lt-ltb _ _ k) at e);
        placed_good = λ h k. eqb-false (index_at s n) MAX (simp (lt-ltb _ _ h, le-ltb _ _ k) at e);
      }

  pub good_chosen : (n : ℕ) → Undoubted s n → chosen_damaged s n ≡ false
  good_chosen n u =
      below_or_not n s.head.used
      (λ h. below_or_not (pending_at s n) s.head.pending
      (λ k. simp (lt-ltb _ _ h, lt-ltb _ _ k) (not_damaged _ _ _ _ (u.pending_good h k)))
      (λ k. simp (lt-ltb _ _ h, le-ltb _ _ k) (ne_eqb (index_at s n) MAX (u.placed_good h k))))
      (λ h. simp (le-ltb _ _ h))

module _ (s : Ids) (place : Place) where
  module _ (g n : ℕ) where
    pub chosen_parts : {x : Option Place × Ids} → granted x ≡ alloc_at s place g n
        → ChosenOk s.head (capacity s) place n × Undoubted s n × (x ≡ allocated_at s place g n)
    unfolding alloc_at
    chosen_parts e =
        let b = both (chosen_rules s.head (capacity s) place n) _ (passed_all _ _ e).0 in
        (chosen_ok _ _ _ _ b.0, chosen_good s n (none_holds _ b.1).0, value_of_lem _ _ e)

    pub chosen_at : ChosenOk s.head (capacity s) place n → Undoubted s n → alloc_at s place g n ≡ granted (allocated_at s place g n)
    unfolding alloc_at chosen_rules ◌or_else◌
    chosen_at c u = simp (c.is_flushed, lt-leb _ _ c.index_in, lt-leb _ _ c.number_in_lem, good_chosen s n u)

    -- the three cases
    pub at_past : s.head.used ≤ n → allocated_at s place g n ≡ (none, settled (stretched s n) n g place)
    at_past h = simp (le-leb _ _ h)

    pub at_pending : n < s.head.used → pending_at s n < s.head.pending → allocated_at s place g n ≡ (none, settled (taken_out s n) n g place)
    at_pending h k = simp (lt-leb _ _ h, lt-ltb _ _ k)

    pub at_live : n < s.head.used → s.head.pending ≤ pending_at s n → allocated_at s place g n ≡ (some (place_at s n), settled s n g place)
    at_live h k = simp (lt-leb _ _ h, le-ltb _ _ k)

    module _ (ok : EntryOk s) (c : ChosenOk s.head (capacity s) place n) (u : Undoubted s n) where
      -- the number is settled, whichever case it is
      pub chosen_leaves : Settled s n g place (allocated_at s place g n).1
      chosen_leaves =
          below_or_not n s.head.used
          (λ h. below_or_not (pending_at s n) s.head.pending
          (λ k. rw (at_pending h k) (fewer_settles s n g place _ ok (omega arith) h c.index_in (simp length-set)))
          (λ k. rw (at_live h k) (settles s n g place ok h s c.is_flushed c.index_in (omega arith) (λ m ne. same_kept s s.head s.pending m refl))))
          (λ h. rw (at_past h) (stretched_settles s n g place ok h c.number_in_lem c.index_in))

      -- it was live in the last case, and in no other
      pub chosen_was_live : n < s.head.used → s.head.pending ≤ pending_at s n → live s (generation_at s n) n ≡ true
      chosen_was_live h k = is_live _ _ _ _ n (record { below = h; generation = refl; index = u.placed_good h k })

      pub pending_was_not : n < s.head.used → pending_at s n < s.head.pending → (q : ℕ) → live s q n ≡ false
      pending_was_not h k q = empty_not_live _ _ _ q n (u.pending_good h k).index

  pub choosing_parts : (bits : ℕ) {x : Option Place × Ids} → granted x ≡ allocating_at s bits place
      → Entered s bits × ChosenOk s.head (capacity s) place (number_in bits) × Undoubted s (number_in bits) × (x ≡ allocated_at s place (generation_in bits) (number_in bits))
  unfolding allocating_at
  choosing_parts bits e =
      let a = entered s bits _ e in
      let b = chosen_parts _ _ a.1 in
      (a.0, b.0, b.1, b.2)

  pub choosing_at : (bits : ℕ) → Entered s bits → ChosenOk s.head (capacity s) place (number_in bits) → Undoubted s (number_in bits)
      → allocating_at s bits place ≡ granted (allocated_at s place (generation_in bits) (number_in bits))
  unfolding allocating_at
  choosing_at bits t c u = at_rest s bits _ t ∙ chosen_at _ _ c u
