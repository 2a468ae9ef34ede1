-- The calls of the id layer on sound tables: the proof of what IdCalls says.
-- Assumes nothing.
use Prim.Native.Nat.{ℕ, ◌+◌, ◌-◌, ◌<◌, ◌≤◌}
use native.Mathlib.Omega.{arith}
use mathlib.Core.Path.{◌≡◌, refl, sym, ap, ◌∙◌}
use mathlib.Core.Logic.{◌⊎◌, inl, inr, ⊎_elim, ◌↔◌}
use mathlib.Core.Bool.{true, false, ◌&&◌}
use mathlib.Core.List.{List, [], ◌∷◌, ◌++◌}
use borrow.Author.Tests.{lt-ltb, le-ltb}
use lib.ListN.{length-append}
use lib.Seq.{slice, length-slice}
use Rattle.refusal.specs.Table.{Rule, ◌when◌, Answer, granted, refused, ◌or_else◌, ◌otherwise◌, passing}
use Rattle.refusal.specs.Laws.{NoneHolds, none_holds, not_refused, passed_all, past}
use Rattle.handle.specs.Bits.{generation_in, number_in}
use Rattle.id_tables.specs.Head.{free_of, new_of}
use Rattle.id_tables.specs.Ids.{Ids, capacity, damaged}
use Rattle.id_tables.specs.Runs.{up_from, length_up_from}
use Rattle.id_tables.proofs.Entering.{entry_ok}
use Rattle.id_tables.proofs.Meaning.{not_damaged}
use Rattle.id_tables.proofs.Laws.{counting_at, clearing_at, clearing_parts}
use Rattle.id_tables.proofs.Placing.{setting_parts, set_parts}
use Rattle.id_tables.proofs.Refusing.{containing_lines, getting_lines, setting_lines, resolving_lines}
use Rattle.ids.specs.Reserve.{has_free, last_free}
use Rattle.ids.specs.Alloc.{has_pending, last_pending}
use Rattle.ids.proofs.Listing.{none_or_some}
use Rattle.ids.proofs.Laws.{reserving_parts, allocating_parts, freeing_parts, choosing_parts, good_chosen}
use Rattle.ids.proofs.Refusing.{reserving_lines, allocating_lines, freeing_lines, choosing_lines}
use Rattle.id_batches.proofs.Granted as batch
use Rattle.id_batches.proofs.Refusing as batch-refusing
use Rattle.soundness.specs.Sound.{SoundIds}
use Rattle.soundness.specs.IdCalls.{Keeps, By, Refuses, Spare, Says}
use Rattle.soundness.proofs.Lists.{below_or, Lists, lists_as, lists_join, lists_up, Between, same_length, mem_among, among_mem, distinct_differ, differ_distinct}
use Rattle.soundness.proofs.Meaning.{Old, sound_ok, pending?, pending_whole, part_whole, live_lives, lives_live, some_live, old_lists}
use Rattle.soundness.proofs.Growing.{grown_sound}
use Rattle.soundness.proofs.Keeping.{free_sound, alloc_sound, flush_sound, many_grown, fallen_sound, clear_sound, place_sound}
use Rattle.soundness.proofs.Choosing.{undoubted, chosen_sound}

-- what is left, of what is granted
left : {A B : Type 0} {x y : A × B} → x ≡ y → x.1 ≡ y.1
left e = ap (λ p. p.1) e

pub keeps : {s : Ids} → SoundIds s → Keeps s
keeps {s} k =
    record {
      reserve_one = λ bits t e. let p = reserving_parts s e in rw (left p.1) (fallen_sound k 1 p.0.has_room);
      reserve_many = λ n out rest t e. let p = batch.reserving_parts s n out e in rw (ap (λ x. x.1.0) p.1) (fallen_sound k n p.0.room_in);
      alloc = λ place bits t e. let p = allocating_parts s place e in rw (left p.1) (alloc_sound k p.0);
      alloc_many = λ n archetype first walk t e. let p = batch.allocating_many_parts s n archetype first e in rw (left p.1) (grown_sound k (many_grown k n p.0 archetype));
      alloc_at = λ bits place had t e. let p = choosing_parts s place bits e in rw (left p.3) (chosen_sound k p.1 (generation_in bits) p.0.nonzero);
      free = λ bits had t e. let p = freeing_parts s bits e in rw (left p.2) (free_sound k p.1);
      set_place = λ bits place t e.
          let p = setting_parts s bits place e in
          let q = set_parts s place (generation_in bits) (number_in bits) p.1 in
          rw q.2 (place_sound k (live_lives s k (generation_in bits) (number_in bits) q.1).0 place q.0);
      flush = λ archetype first t e. let p = batch.flushing_parts s archetype first e in rw (left p.1) (flush_sound k p.0 archetype);
      clear = λ t e. let p = clearing_parts s e in rw p.1 (clear_sound (entry_ok s false p.0));
    }

module _ {s : Ids} (k : SoundIds s) where
  -- the entries that a single reservation and an alloc take
  free_whole : (has_free s && damaged s (last_free s)) ≡ false
  free_whole =
      let ok = sound_ok s k in
      none_or_some (free_of s.head.cursor) (λ z. rw (le-ltb 0 (free_of s.head.cursor) (omega arith)))
      (λ h. rw (lt-ltb 0 (free_of s.head.cursor) h) (not_damaged _ _ _ _ (pending_whole s k (free_of s.head.cursor - 1) (omega arith))))

  pub last_whole : (has_pending s && damaged s (last_pending s)) ≡ false
  last_whole =
      none_or_some s.head.pending (λ z. rw (le-ltb 0 s.head.pending (omega arith)))
      (λ h. rw (lt-ltb 0 s.head.pending h) (not_damaged _ _ _ _ (pending_whole s k (s.head.pending - 1) (omega arith))))

  pub refuses : Refuses s
  unfolding ◌or_else◌
  refuses =
      let e = k.head_rule in
      let ok = sound_ok s k in
      record {
        reserve_one = (_, reserving_lines s e free_whole);
        reserve_many = λ n out. (_, batch-refusing.reserving_lines s e n out (part_whole s k (free_of s.head.cursor - n) (free_of s.head.cursor) (omega arith)));
        alloc = λ place. (_, allocating_lines s e place last_whole);
        alloc_many = λ n archetype first. (_, batch-refusing.allocating_many_lines s e n archetype first (part_whole s k (s.head.pending - n) s.head.pending (omega arith)));
        alloc_at = λ bits place. (_, choosing_lines s e bits place (good_chosen s (number_in bits) (undoubted k (number_in bits))));
        free = λ bits. (_, freeing_lines s e bits (λ l. some_live s k (number_in bits) (live_lives s k (generation_in bits) (number_in bits) l).0));
        set_place = λ bits place. (_, setting_lines s e bits place);
        get = λ bits. (_, getting_lines s e bits);
        contains = λ bits. (_, containing_lines s e bits);
        resolve = λ n. (_, resolving_lines s e n (k.generation_nonzero n));
        len = (_, counting_at s e);
        flush = λ archetype first. (_, batch-refusing.flushing_lines s e archetype first (part_whole s k (free_of s.head.cursor) s.head.pending (omega arith)));
        free_list = λ out. (_, batch-refusing.listing_lines s e out (part_whole s k 0 (free_of s.head.cursor) (omega arith)));
        clear = (_, clearing_at s e);
      }

  -- the numbers neither live nor reserved: the free entries of pending, and the new numbers that are left
  abbrev next : ℕ
  next = s.head.used + new_of s.head.cursor

  spare_to : (n : ℕ) → Old s 0 (free_of s.head.cursor) n ⊎ Between next (capacity s) n → Spare s n
  spare_to n (inl o) =
      let ok = sound_ok s k in
      let (j, w, e) = o in
      let b = k.pending_below j (omega arith) in (
        omega arith,
        λ l. l.1 (j, omega arith, e),
        λ r. ⊎_elim (λ x. let (i, a, c, q) = x in k.pending_differ j i (omega arith) c (e ∙ sym q)) (λ x. let (a, c) = x in omega arith) r,
      )
  spare_to n (inr b) =
      let ok = sound_ok s k in (
        b.1,
        λ l. (let x = l.0 in omega arith),
        λ r. ⊎_elim (λ x. let (i, a, c, q) = x in omega (arith, k.pending_below i c)) (λ x. let (a, c) = x in omega arith) r,
      )

  spare_back : (n : ℕ) → Spare s n → Old s 0 (free_of s.head.cursor) n ⊎ Between next (capacity s) n
  spare_back n x =
      let (a, b, c) = x in
      ⊎_elim
      (λ (u : n < s.head.used).
      ⊎_elim (λ p. let (j, w, e) = p in ⊎_elim (λ (y : j < free_of s.head.cursor). inl (j, omega arith, e)) (λ (y : free_of s.head.cursor ≤ j). absurd (c (inl (j, y, w, e)))) (below_or j (free_of s.head.cursor))) (λ q. absurd (b (u, q))) (pending? s n))
      (λ (u : s.head.used ≤ n). ⊎_elim (λ (y : n < next). absurd (c (inr (u, y)))) (λ (y : next ≤ n). inr (y, a)) (below_or n next)) (below_or n s.head.used)

  abbrev spares : List ℕ
  spares = slice 0 (free_of s.head.cursor) s.pending ++ up_from next (capacity s - next)

  spare_lists : Lists (Spare s) spares
  spare_lists =
      let ok = sound_ok s k in
      lists_as spare_to spare_back
      (lists_join (λ m o b. let (j, w, e) = o in omega (arith, k.pending_below j (omega arith))) (old_lists s k 0 (free_of s.head.cursor) (omega arith) (omega arith)) (lists_up next (capacity s)))

  pub says : Says s
  says =
      let ok = sound_ok s k in
      record {
        live_says = λ g n. (λ e. live_lives s k g n e, λ x. lives_live s k g n x.0 x.1);
        live_count = ok.live_is;
        spare_listed = (
          spares,
          record {
            different = distinct_differ spares spare_lists.once;
            exactly = λ n. (λ x. spare_lists.only n (among_mem n spares x), λ x. mem_among n spares (spare_lists.all n x));
          },
        );
        room_says = λ ns l.
            same_length (record { once = differ_distinct ns l.different; only = λ n m. (l.exactly n).0 (mem_among n ns m); all = λ n x. among_mem n ns ((l.exactly n).1 x) }) spare_lists
            ∙ rw (length-append, length-slice 0 (free_of s.head.cursor) s.pending (omega arith), length_up_from next (capacity s - next)) (omega arith);
      }

-- What a list of lines says of a call: it is granted exactly where no line holds, and refused by a number only where a line of that number holds.
none_passes : (lines : List Rule) → NoneHolds lines → granted tt ≡ passing lines
unfolding ◌or_else◌
none_passes [] h = refl
none_passes (n when t ∷ rest) h = rw h.0 (none_passes rest h.1)

abbrev pub Holds : ℕ → List Rule → Type 0
Holds m [] = ⊥
Holds m (n when t ∷ rest) = ((m ≡ n) × (t ≡ true)) ⊎ Holds m rest

line_holds : {A : Type 0} {m : ℕ} (v : A) (lines : List Rule) → (lines otherwise v) ≡ refused m → Holds m lines
unfolding ◌or_else◌
line_holds v [] e = absurd (not_refused e)
line_holds v (n when true ∷ rest) e = inl (cc, refl)
line_holds v (n when false ∷ rest) e = inr (line_holds v rest e)

module _ {A : Type 0} (lines : List Rule) (rule : Answer A) (b : By lines rule) where
  pub granted_by : ((v : A) × (rule ≡ granted v)) ↔ NoneHolds lines
  granted_by = (
    λ x. none_holds lines (passed_all lines (granted b.0) (sym x.1 ∙ b.1)).0,
    λ h. (b.0, b.1 ∙ past lines (granted b.0) (none_passes lines h)),
  )

  pub refused_by : (m : ℕ) → rule ≡ refused m → Holds m lines
  refused_by m e = line_holds b.0 lines (sym b.1 ∙ e)
