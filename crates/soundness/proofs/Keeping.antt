-- Each call on sound id tables leaves sound id tables, and which numbers live then. Alloc at stands in Choosing.
-- Assumes nothing.
use Prim.Native.Nat.{ℕ, ◌+◌, ◌-◌, ◌<◌, ◌≤◌}
use native.Mathlib.Omega.{arith}
use mathlib.Core.Path.{◌≡◌, refl, sym, ap, ◌∙◌}
use mathlib.Core.Logic.{◌≢◌, ◌⊎◌, inl, inr, ⊎_elim, ◌↔◌}
use mathlib.Core.Bool.{cond}
use mathlib.Core.List.{List, ◌++◌}
use borrow.Author.Tests.{lt-ltb, le-ltb}
use lib.IntN.{ℤ, pos, negsuc}
use lib.ListN.{length, get_or, length-append}
use lib.Seq.{get_or-set_same, get_or-set_other, length-slice}
use Rattle.handle.specs.Bits.{MAX, place_of}
use Rattle.handle.specs.declared.Place.{Place}
use Rattle.id_tables.specs.Head.{free_of, new_of}
use Rattle.id_tables.specs.Ids.{Ids, capacity, room, generation_at, index_at, place_at, placed, EntryOk}
use Rattle.id_tables.specs.Lookup.{reserved_old, cleared}
use Rattle.id_tables.specs.Runs.{up_from, length_up_from, up_from_at}
use Rattle.id_tables.proofs.Falling.{fallen_ok}
use Rattle.id_tables.proofs.Meaning.{ok_passes}
use Rattle.id_tables.proofs.Placing.{placed_here, placed_other, placed_entry}
use Rattle.ids.specs.Alloc.{has_pending, last_pending, popped, grown, allocated_last, allocated_new}
use Rattle.ids.specs.Free.{freed_ids}
use Rattle.ids.proofs.Passing.{AllocOk, FreeOk, flushed_room}
use Rattle.ids.proofs.Listing.{none_or_some}
use Rattle.ids.proofs.Leaving.{Released, next_nonzero}
use Rattle.ids.proofs.Laws.{alloc_number, alloc_leaves, free_leaves}
use Rattle.id_batches.specs.AllocMany.{new_numbers, alloced_ids}
use Rattle.id_batches.specs.AllocMany.{last_pending as lastMany}
use Rattle.id_batches.specs.Flush.{reserved_fresh, reserved_count, flushed_ids}
use Rattle.id_batches.proofs.Granted.{FlushOk, AllocManyOk, fallen_ids}
use Rattle.id_batches.proofs.Numbers.{Different}
use Rattle.id_batches.proofs.Seats.{Seats, flush_seats, flush_different, many_seats, many_different}
use Rattle.soundness.specs.Sound.{pending_at, Lives, SoundIds}
use Rattle.soundness.proofs.Lists.{below_or, eq_or, Lists, lists_as, lists_join, lists_up, Between, Among, mem_among, among_mem}
use Rattle.soundness.proofs.Meaning.{Old, sound_ok, old_lists, live_lives}
use Rattle.soundness.proofs.Growing.{Fresh, grown_head, Grown, grown_sound, grown_lives, lives_grown}

-- the index of a place
pub index_of : {p q : Place} → p ≡ q → p.index.0 ≡ q.index.0
index_of e = ap (λ (p : Place). p.index.0) e

-- Free: its number becomes pending, and lives no more
module _ {s : Ids} (k : SoundIds s) {g n : ℕ} (f : FreeOk s g n) where
  freed : Released s n g (freed_ids s g n)
  freed = free_leaves s g n f

  lived : Lives s n
  lived = (live_lives s k g n f.lives).0

  pub free_lives : (m : ℕ) → Lives (freed_ids s g n) m ↔ (Lives s m × (m ≢ n))
  free_lives m = (
    λ l. let (x, y) = l in ((x, λ p. let (j, h, e) = p in y (j, omega arith, freed.before j h ∙ e)), λ e. y (s.head.pending, omega arith, freed.pushed ∙ sym e)),
    λ l. let (w, ne) = l in let (x, y) = w in (x, λ p. let (j, h, e) = p in ⊎_elim (λ (z : j < s.head.pending). y (j, z, sym (freed.before j z) ∙ e)) (λ (z : s.head.pending ≤ j). let q : j ≡ s.head.pending = omega arith in ne (sym e ∙ ap (pending_at (freed_ids s g n)) q ∙ freed.pushed)) (below_or j s.head.pending)),
  )

  pub free_sound : SoundIds (freed_ids s g n)
  free_sound =
      record {
        head_rule = sym (ok_passes (freed_ids s g n) freed.ok);
        pending_differ = λ i j h l e.
            ⊎_elim (λ (z : j < s.head.pending). k.pending_differ i j h z (sym (freed.before i (omega arith)) ∙ e ∙ freed.before j z))
            (λ (z : s.head.pending ≤ j). let q : j ≡ s.head.pending = omega arith in lived.1 (i, omega arith, sym (freed.before i (omega arith)) ∙ e ∙ ap (pending_at (freed_ids s g n)) q ∙ freed.pushed))
            (below_or j s.head.pending);
        pending_below = λ j h. at (λ m. m < s.head.used) j h k.pending_below lived.0;
        pending_place = λ j h. at (λ m. place_at (freed_ids s g n) m ≡ place_of 0 MAX) j h (λ i l. (freed.others (pending_at s i) (other i l)).place_kept (k.pending_below i l) ∙ k.pending_place i l) freed.place_is;
        generation_nonzero = λ m h z.
            ⊎_elim (λ (e : m ≡ n). next_nonzero g (sym freed.generation_is ∙ sym (ap (generation_at (freed_ids s g n)) e) ∙ z))
            (λ (ne : m ≢ n). k.generation_nonzero m h (sym ((freed.others m ne).generation_kept h) ∙ z)) (eq_or m n);
        lives_placed = λ m l z. let w = (free_lives m).0 l in k.lives_placed m w.0 (sym (index_of ((freed.others m w.1).place_kept w.0.0)) ∙ z);
      }
    where
      other : (i : ℕ) → i < s.head.pending → pending_at s i ≢ n
      other i l e = lived.1 (i, l, e)

      at : (P : ℕ → Type 0) (j : ℕ) → j < s.head.pending + 1 → ((i : ℕ) → i < s.head.pending → P (pending_at s i)) → P n → P (pending_at (freed_ids s g n) j)
      at P j h before last =
          ⊎_elim (λ (z : j < s.head.pending). rw (freed.before j z) (before j z))
          (λ (z : s.head.pending ≤ j). let q : j ≡ s.head.pending = omega arith in rw (q, freed.pushed) last) (below_or j s.head.pending)

-- Alloc: what it grants, the handle and the tables
abbrev pub alloced : Ids → Place → ℕ × Ids
alloced s place = cond (has_pending s) (allocated_last s place) (allocated_new s place)

-- its number lives
module _ {s : Ids} (k : SoundIds s) {place : Place} (a : AllocOk s place) where
  pub alloc_fresh : (m : ℕ) → Fresh s 0 1 m ↔ (m ≡ alloc_number s)
  alloc_fresh m =
      none_or_some s.head.pending
      (λ z. rw (le-ltb 0 s.head.pending (omega arith)) (λ x. new z x, λ e. inr (omega arith)))
      (λ h. rw (lt-ltb 0 s.head.pending h) (λ x. last h x, λ e. inl (s.head.pending - 1, omega arith, sym e)))
    where
      new : s.head.pending ≡ 0 → Fresh s 0 1 m → m ≡ s.head.used
      new z (inl o) = let (j, w, e) = o in absurd (omega arith)
      new z (inr b) = omega arith

      last : 0 < s.head.pending → Fresh s 0 1 m → m ≡ last_pending s
      last h (inl o) = let (j, w, e) = o in let q : j ≡ s.head.pending - 1 = omega arith in sym e ∙ ap (pending_at s) q
      last h (inr b) = absurd (omega arith)

  last_grown : 0 < s.head.pending → Grown s 1 (allocated_last s place).1
  last_grown h =
      let l = rw (lt-ltb 0 s.head.pending h) at (alloc_leaves s place a).settled_now in
      let q : 1 - s.head.pending ≡ 0 = omega arith in
      let u : s.head.used + 0 ≡ s.head.used = omega arith in
      record {
        ok = l.ok;
        head_is = rw (q, u);
        pending_same = refl;
        generation_new = λ m x y. absurd (omega arith);
        generation_same = λ m x. refl;
        placed = λ m x z. let e : m ≡ last_pending s = rw (lt-ltb 0 s.head.pending h) at ((alloc_fresh m).0 x) in
            omega (arith, a.index_in, index_of l.place_is, ap (index_at (allocated_last s place).1) e, z);
        place_same = λ m x. placed_other (popped s) (last_pending s) place m (λ e. x (inl (s.head.pending - 1, omega arith, sym e)));
      }

  new_grown : s.head.pending ≡ 0 → Grown s 1 (allocated_new s place).1
  new_grown z =
      let ok = sound_ok s k in
      let l = rw (le-ltb 0 s.head.pending (omega arith)) at (alloc_leaves s place a).settled_now in
      let q : 1 - s.head.pending ≡ 1 = omega arith in
      let p : s.head.pending - 1 ≡ s.head.pending = omega arith in
      let r : s.head.used < capacity s = omega (arith, a.has_room, flushed_room s a.is_flushed) in
      record {
        ok = l.ok;
        head_is = rw (q, p);
        pending_same = refl;
        generation_new = λ m x y. let e : m ≡ s.head.used = omega arith in rw e (get_or-set_same s.generations s.head.used 1 0 r);
        generation_same = λ m x. get_or-set_other s.generations s.head.used m 1 0 (λ e. ⊎_elim (λ (w : m < s.head.used). omega arith) (λ (w : s.head.used + (1 - s.head.pending) ≤ m). omega arith) x);
        placed = λ m x y. let e : m ≡ s.head.used = rw (le-ltb 0 s.head.pending (omega arith)) at ((alloc_fresh m).0 x) in
            omega (arith, a.index_in, index_of l.place_is, ap (index_at (allocated_new s place).1) e, y);
        place_same = λ m x. placed_other (grown s) s.head.used place m (λ e. x (inr (omega arith)));
      }

  pub alloc_grown : Grown s 1 (alloced s place).1
  alloc_grown =
      none_or_some s.head.pending (λ z. rw (le-ltb 0 s.head.pending (omega arith)) (new_grown z)) (λ h. rw (lt-ltb 0 s.head.pending h) (last_grown h))

  pub alloc_sound : SoundIds (alloced s place).1
  alloc_sound = grown_sound k alloc_grown

  pub alloc_lives : (m : ℕ) → Lives (alloced s place).1 m ↔ (Lives s m ⊎ (m ≡ alloc_number s))
  alloc_lives m = (
    λ l. ⊎_elim (λ (x : Lives s m). inl x) (λ (x : Fresh s 0 1 m). inr ((alloc_fresh m).0 x)) (grown_lives k alloc_grown m l),
    λ l. lives_grown k alloc_grown m (⊎_elim (λ (x : Lives s m). inl x) (λ (x : m ≡ alloc_number s). inr ((alloc_fresh m).1 x)) l),
  )

-- numbers that get successive rows, new ones among them: they have become live
pub seats_grown : {s t : Ids} {n count archetype first : ℕ} {ns : List ℕ} → Seats s t (up_from s.head.used count) ns archetype first → count ≡ n - s.head.pending
    → t.head ≡ grown_head s n → Lists (Fresh s 0 n) ns → length ns ≡ n → Different ns → first + n ≤ MAX → Grown s n t
seats_grown {s} {t} {n} {count} {archetype} {first} {ns} w e h l long d r =
    record {
      ok = w.ok;
      head_is = h;
      pending_same = w.pending_same;
      generation_new = λ m x y.
          let i : m - s.head.used < count = omega arith in
          let q : get_or (up_from s.head.used count) (m - s.head.used) 0 ≡ m = up_from_at s.head.used count (m - s.head.used) i ∙ omega arith in
          rw q at (w.generation (m - s.head.used) (rw (length_up_from s.head.used count) i));
      generation_same = λ m x. w.other_generation m (λ i y q.
          let z : i < count = rw (length_up_from s.head.used count) at y in
          let u = up_from_at s.head.used count i z in
          ⊎_elim (λ (v : m < s.head.used). omega arith) (λ (v : s.head.used + (n - s.head.pending) ≤ m). omega arith) x);
      placed = λ m x z.
          let (i, y, q) = mem_among m ns (l.all m x) in
          omega (arith, index_of (w.place i y (d i)), ap (index_at t) q, z);
      place_same = λ m x. w.other_place m (λ i y q. x (l.only m (among_mem m ns (i, y, q))));
    }

-- the cursor has one sign
one_sign : (c : ℤ) → (new_of c ≡ 0) ⊎ (free_of c ≡ 0)
one_sign (pos n) = inl refl
one_sign (negsuc n) = inr refl

-- Flush: every reserved number lives
module _ {s : Ids} (k : SoundIds s) where
  pub new_count : new_of s.head.cursor ≡ reserved_count s - s.head.pending
  new_count = let ok = sound_ok s k in ⊎_elim (λ (e : new_of s.head.cursor ≡ 0). omega arith) (λ (e : free_of s.head.cursor ≡ 0). omega arith) (one_sign s.head.cursor)

  pub free_count : free_of s.head.cursor ≡ s.head.pending - reserved_count s
  free_count = let ok = sound_ok s k in ⊎_elim (λ (e : new_of s.head.cursor ≡ 0). omega arith) (λ (e : free_of s.head.cursor ≡ 0). omega arith) (one_sign s.head.cursor)

  -- the reserved numbers are the first that would be allocated
  pub reserved_lists : Lists (Fresh s 0 (reserved_count s)) (reserved_fresh s ++ reserved_old s)
  reserved_lists =
      let ok = sound_ok s k in
      let e : s.head.used + new_of s.head.cursor - s.head.used ≡ new_of s.head.cursor = omega arith in
      lists_as
      (λ m x. ⊎_elim (λ (b : Between s.head.used (s.head.used + new_of s.head.cursor) m). inr (omega (arith, new_count))) (λ (o : Old s (free_of s.head.cursor) s.head.pending m). let (j, w, q) = o in inl (j, omega (arith, free_count), q)) x)
      (λ m x. ⊎_elim (λ (o : Old s (s.head.pending - reserved_count s) (s.head.pending - 0) m). let (j, w, q) = o in inr (j, omega (arith, free_count), q)) (λ (b : Between (s.head.used + (0 - s.head.pending)) (s.head.used + (reserved_count s - s.head.pending)) m). inl (omega (arith, new_count))) x)
      (lists_join
      (λ m b o. let (j, w, q) = o in omega (arith, k.pending_below j (omega arith)))
      (rw e at (lists_up s.head.used (s.head.used + new_of s.head.cursor)))
      (old_lists s k (free_of s.head.cursor) s.head.pending (omega arith) (omega arith)))

  pub reserved_long : length (reserved_fresh s ++ reserved_old s) ≡ reserved_count s
  reserved_long =
      let ok = sound_ok s k in
      rw (length-append, length_up_from s.head.used (new_of s.head.cursor), length-slice (free_of s.head.cursor) s.head.pending s.pending (omega arith))

  module _ {first : ℕ} (f : FlushOk s first) (archetype : ℕ) where
    pub flush_grown : Grown s (reserved_count s) (flushed_ids s archetype first)
    flush_grown =
        seats_grown (flush_seats s first f archetype) new_count (rw (← new_count, ← free_count)) reserved_lists reserved_long (flush_different s first f k.pending_differ) f.rows_in

    pub flush_sound : SoundIds (flushed_ids s archetype first)
    flush_sound = grown_sound k flush_grown

    pub flush_lives : (m : ℕ) → Lives (flushed_ids s archetype first) m ↔ (Lives s m ⊎ Among m (reserved_fresh s ++ reserved_old s))
    flush_lives m = (
      λ l. ⊎_elim (λ (x : Lives s m). inl x) (λ (x : Fresh s 0 (reserved_count s) m). inr (mem_among m _ (reserved_lists.all m x))) (grown_lives k flush_grown m l),
      λ l. lives_grown k flush_grown m (⊎_elim (λ (x : Lives s m). inl x) (λ (x : Among m (reserved_fresh s ++ reserved_old s)). inr (reserved_lists.only m (among_mem m _ x))) l),
    )

-- Alloc many: the last of pending, and new numbers
module _ {s : Ids} (k : SoundIds s) (n : ℕ) where
  many_lists : Lists (Fresh s 0 n) (lastMany s n ++ new_numbers s n)
  many_lists =
      let ok = sound_ok s k in
      let e : s.head.used + (n - s.head.pending) - s.head.used ≡ n - s.head.pending = omega arith in
      lists_as
      (λ m x. ⊎_elim (λ (o : Old s (s.head.pending - n) s.head.pending m). let (j, w, q) = o in inl (j, omega arith, q)) (λ (b : Between s.head.used (s.head.used + (n - s.head.pending)) m). inr (omega arith)) x)
      (λ m x. ⊎_elim (λ (o : Old s (s.head.pending - n) (s.head.pending - 0) m). let (j, w, q) = o in inl (j, omega arith, q)) (λ (b : Between (s.head.used + (0 - s.head.pending)) (s.head.used + (n - s.head.pending)) m). inr (omega arith)) x)
      (lists_join
      (λ m o b. let (j, w, q) = o in omega (arith, k.pending_below j (omega arith)))
      (old_lists s k (s.head.pending - n) s.head.pending (omega arith) (omega arith))
      (rw e at (lists_up s.head.used (s.head.used + (n - s.head.pending)))))

  many_long : length (lastMany s n ++ new_numbers s n) ≡ n
  many_long =
      let ok = sound_ok s k in
      rw (length-append, length_up_from s.head.used (n - s.head.pending), length-slice (s.head.pending - n) s.head.pending s.pending (omega arith)) (omega arith)

  pub many_grown : {first : ℕ} → AllocManyOk s n first → (archetype : ℕ) → Grown s n (alloced_ids s n archetype first)
  many_grown {first} f archetype = seats_grown (many_seats s n first f archetype) refl refl many_lists many_long (many_different s n first f k.pending_differ) f.rows_in

-- A reservation: only the cursor falls, and the same numbers live
pub fallen_sound : {s : Ids} → SoundIds s → (n : ℕ) → n ≤ room s → SoundIds (fallen_ids s n)
fallen_sound {s} k n h =
    record {
      head_rule = sym (ok_passes (fallen_ids s n) (fallen_ok s n (sound_ok s k) h));
      pending_differ = k.pending_differ;
      pending_below = k.pending_below;
      pending_place = k.pending_place;
      generation_nonzero = k.generation_nonzero;
      lives_placed = k.lives_placed;
    }

-- Clear: nothing lives
module _ {s : Ids} (ok : EntryOk s) where
  pub clear_sound : SoundIds (cleared s)
  clear_sound =
      record {
        head_rule = sym (ok_passes (cleared s) (record { small = ok.small; archetypes_long = ok.archetypes_long; indices_long = ok.indices_long; pending_long = ok.pending_long; used_in = omega arith; pending_in = omega arith; free_in = omega arith; new_in = omega arith; live_is = refl }));
        pending_differ = λ i j h l e. omega arith;
        pending_below = λ j h. absurd (omega arith);
        pending_place = λ j h. absurd (omega arith);
        generation_nonzero = λ m h z. omega arith;
        lives_placed = λ m l z. (let x = l.0 in omega arith);
      }

  pub clear_lives : (m : ℕ) → Lives (cleared s) m → ⊥
  clear_lives m l = let x = l.0 in omega arith

-- Set the place of a live number: the same numbers live
module _ {s : Ids} (k : SoundIds s) {n : ℕ} (l : Lives s n) (place : Place) (i : place.index.0 < MAX) where
  pub place_sound : SoundIds (placed s n place)
  place_sound =
      let ok = sound_ok s k in
      record {
        head_rule = rw (placed_entry s n place) k.head_rule;
        pending_differ = k.pending_differ;
        pending_below = k.pending_below;
        pending_place = λ j h. placed_other s n place (pending_at s j) (λ e. l.1 (j, h, e)) ∙ k.pending_place j h;
        generation_nonzero = k.generation_nonzero;
        lives_placed = λ m w z.
            ⊎_elim (λ (e : m ≡ n). omega (arith, l.0, index_of (placed_here s n place (omega (arith, l.0)) (omega (arith, l.0))), ap (index_at (placed s n place)) e, z))
            (λ (ne : m ≢ n). k.lives_placed m w (sym (index_of (placed_other s n place m ne)) ∙ z)) (eq_or m n);
      }
