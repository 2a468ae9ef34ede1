-- Alloc at on sound id tables: no chosen number is damaged, and in each of the three cases sound tables are left, in which that number lives.
-- Assumes nothing.
use Prim.Native.Nat.{ℕ, ◌+◌, ◌-◌, ◌<◌, ◌≤◌}
use native.Mathlib.Omega.{arith}
use mathlib.Core.Path.{◌≡◌, refl, sym, ap, ◌∙◌, subst}
use mathlib.Core.Logic.{◌≢◌, ◌⊎◌, inl, inr, ⊎_elim, ◌↔◌}
use mathlib.Core.Option.{Option}
use lib.ListN.{get_or, take, length-take}
use lib.Seq.{get_or-take}
use Rattle.handle.specs.Bits.{MAX, place_of}
use Rattle.handle.specs.declared.Place.{Place}
use Rattle.id_tables.specs.Ids.{Ids, capacity, generation_at, index_at, place_at, EntryOk}
use Rattle.id_tables.proofs.Meaning.{ok_passes}
use Rattle.ids.specs.Alloc.{settled}
use Rattle.ids.specs.AllocAt.{stretched, taken_out, gap, allocated_at}
use Rattle.ids.specs.AllocAt.{pending_at as positionIn}
use Rattle.ids.proofs.Passing.{ChosenOk}
use Rattle.ids.proofs.Listing.{position_holds, position_first}
use Rattle.ids.proofs.Leaving.{Settled, gap_generation, gap_place, gap_pending, before_pending, taken_moved, taken_others}
use Rattle.ids.proofs.Laws.{Undoubted, at_past, at_pending, at_live, chosen_leaves}
use Rattle.soundness.specs.Sound.{pending_at, Pending, Lives, SoundIds}
use Rattle.soundness.proofs.Lists.{below_or, eq_or}
use Rattle.soundness.proofs.Meaning.{sound_ok, pending_whole, same_position}
use Rattle.soundness.proofs.Keeping.{index_of}

module _ {s : Ids} (k : SoundIds s) (n : ℕ) where
  ok : EntryOk s
  ok = sound_ok s k

  -- where a number stands in pending, and that it stands there at all
  at_position : (j : ℕ) → j < s.head.pending → get_or (take s.head.pending s.pending) j 0 ≡ pending_at s j
  at_position j h = get_or-take s.head.pending s.pending j 0 h

  pub position_pending : positionIn s n < s.head.pending → pending_at s (positionIn s n) ≡ n
  position_pending h =
      let e = ok in
      sym (at_position (positionIn s n) h) ∙ position_holds n (take s.head.pending s.pending) (rw (length-take s.head.pending s.pending) (omega arith))

  pub position_past : s.head.pending ≤ positionIn s n → Pending s n → ⊥
  position_past h p = let (j, l, e) = p in position_first n (take s.head.pending s.pending) j (omega arith) (at_position j l ∙ e)

  -- the chosen number is not damaged
  pub undoubted : Undoubted s n
  undoubted =
      record {
        pending_good = λ h l. rw (position_pending l) at (pending_whole s k (positionIn s n) l);
        placed_good = λ h l. k.lives_placed n (h, position_past l);
      }

module _ {s : Ids} (k : SoundIds s) {place : Place} {n : ℕ} (c : ChosenOk s.head (capacity s) place n) (g : ℕ) (nz : g ≡ 0 → ⊥) where
  abbrev after : Ids
  after = (allocated_at s place g n).1

  settled_now : Settled s n g place after
  settled_now = chosen_leaves s place g n (sound_ok s k) c (undoubted k n)

  -- what the three cases share: which numbers live then, and that the pending ones are as they have to be
  record Chosen (t : Ids) : Type 0 where
    settles : Settled s n g place t
    lives_then : (m : ℕ) → Lives t m → Lives s m ⊎ (m ≡ n)
    lives_also : (m : ℕ) → Lives s m ⊎ (m ≡ n) → Lives t m
    differ : (i j : ℕ) → i < j → j < t.head.pending → pending_at t i ≡ pending_at t j → ⊥
    below : (j : ℕ) → j < t.head.pending → pending_at t j < t.head.used
    empty : (j : ℕ) → j < t.head.pending → place_at t (pending_at t j) ≡ place_of 0 MAX
    nonzero : (m : ℕ) → m < t.head.used → m ≢ n → generation_at t m ≡ 0 → ⊥

  chosen_kept : {t : Ids} → Chosen t → SoundIds t
  chosen_kept {t} h =
      record {
        head_rule = sym (ok_passes t h.settles.ok);
        pending_differ = h.differ;
        pending_below = h.below;
        pending_place = h.empty;
        generation_nonzero = λ m l z. ⊎_elim (λ (e : m ≡ n). nz (sym h.settles.generation_is ∙ sym (ap (generation_at t) e) ∙ z)) (λ (ne : m ≢ n). h.nonzero m l ne z) (eq_or m n);
        lives_placed = λ m l z.
            ⊎_elim (λ (e : m ≡ n). omega (arith, c.index_in, index_of h.settles.place_is, ap (index_at t) e, z))
            (λ (ne : m ≢ n). ⊎_elim (λ (w : Lives s m). k.lives_placed m w (sym (index_of ((h.settles.others m ne).place_kept w.0)) ∙ z)) (λ (e : m ≡ n). ne e) (h.lives_then m l)) (eq_or m n);
      }

  -- n ≥ used
  module _ (past : s.head.used ≤ n) where
    abbrev ends : Ids
    ends = settled (stretched s n) n g place

    entry : EntryOk s
    entry = sound_ok s k

    new_at : (j : ℕ) → s.head.pending ≤ j → j < s.head.pending + gap s n → pending_at ends j ≡ s.head.used + (j - s.head.pending)
    new_at j h l =
        let e : s.head.pending + (j - s.head.pending) ≡ j = omega arith in
        rw e at (gap_pending s n g place entry past c.number_in_lem c.index_in (j - s.head.pending) (omega arith))

    old_at : (j : ℕ) → j < s.head.pending → pending_at ends j ≡ pending_at s j
    old_at j h = before_pending s n g place entry past c.number_in_lem c.index_in j h

    past_settles : Settled s n g place ends
    past_settles = subst (λ (x : Option Place × Ids). Settled s n g place x.1) (at_past s place g n past) settled_now

    past_chosen : Chosen ends
    past_chosen =
        record {
          settles = past_settles;
          lives_then = λ m l.
              ⊎_elim (λ (h : m < s.head.used). inl (h, λ p. let (j, w, e) = p in l.1 (j, omega arith, old_at j w ∙ e)))
              (λ (h : s.head.used ≤ m).
              ⊎_elim (λ (x : m < n). absurd (l.1 (s.head.pending + (m - s.head.used), omega arith, new_at (s.head.pending + (m - s.head.used)) (omega arith) (omega arith) ∙ omega arith))) (λ (x : n ≤ m). inr (let y = l.0 in omega arith)) (below_or m n))
              (below_or m s.head.used);
          lives_also = λ m x.
              ⊎_elim (λ (l : Lives s m). (let y = l.0 in omega arith, λ p. let (j, w, e) = p in ⊎_elim (λ (z : j < s.head.pending). l.1 (j, z, sym (old_at j z) ∙ e)) (λ (z : s.head.pending ≤ j). let y = l.0 in omega (arith, new_at j z w)) (below_or j s.head.pending)))
              (λ (q : m ≡ n). (omega arith, λ p. let (j, w, e) = p in ⊎_elim (λ (z : j < s.head.pending). omega (arith, old_at j z, k.pending_below j z)) (λ (z : s.head.pending ≤ j). omega (arith, new_at j z w)) (below_or j s.head.pending))) x;
          differ = λ i j h l e.
              ⊎_elim (λ (x : j < s.head.pending). k.pending_differ i j h x (sym (old_at i (omega arith)) ∙ e ∙ old_at j x))
              (λ (x : s.head.pending ≤ j).
              ⊎_elim (λ (y : i < s.head.pending). omega (arith, old_at i y, k.pending_below i y, new_at j x l, e)) (λ (y : s.head.pending ≤ i). omega (arith, new_at i y (omega arith), new_at j x l, e)) (below_or i s.head.pending))
              (below_or j s.head.pending);
          below = λ j h. ⊎_elim (λ (x : j < s.head.pending). omega (arith, old_at j x, k.pending_below j x)) (λ (x : s.head.pending ≤ j). omega (arith, new_at j x h)) (below_or j s.head.pending);
          empty = λ j h.
              ⊎_elim
              (λ (x : j < s.head.pending).
              let b = k.pending_below j x in
              ap (place_at ends) (old_at j x) ∙ (past_settles.others (pending_at s j) (λ e. omega arith)).place_kept b ∙ k.pending_place j x)
              (λ (x : s.head.pending ≤ j). ap (place_at ends) (new_at j x h) ∙ gap_place s n g place entry past c.number_in_lem c.index_in (s.head.used + (j - s.head.pending)) (omega arith) (omega arith))
              (below_or j s.head.pending);
          nonzero = λ m h ne z.
              ⊎_elim (λ (x : m < s.head.used). k.generation_nonzero m x (sym ((past_settles.others m ne).generation_kept x) ∙ z))
              (λ (x : s.head.used ≤ m). omega (arith, gap_generation s n g place entry past c.number_in_lem c.index_in m x (omega (arith, ne)), z)) (below_or m s.head.used);
        }

  -- n pending: the last entry stands in its position
  module _ (h : n < s.head.used) (p : positionIn s n < s.head.pending) where
    abbrev rest : Ids
    rest = settled (taken_out s n) n g place

    out_settles : Settled s n g place rest
    out_settles = subst (λ (x : Option Place × Ids). Settled s n g place x.1) (at_pending s place g n h p) settled_now

    -- the position that an entry had
    record Had (j : ℕ) : Type 0 where
      from : ℕ
      inside : from < s.head.pending
      other : from ≡ positionIn s n → ⊥
      same : pending_at rest j ≡ pending_at s from
      moved : ((j ≡ positionIn s n) × (from ≡ s.head.pending - 1)) ⊎ ((j ≡ positionIn s n → ⊥) × (from ≡ j))

    had : (j : ℕ) → j < s.head.pending - 1 → Had j
    had j l =
        ⊎_elim
        (λ (e : j ≡ positionIn s n).
        record { from = s.head.pending - 1; inside = omega arith; other = λ q. omega arith; same = ap (pending_at rest) e ∙ taken_moved s n g place (sound_ok s k) p; moved = inl (e, refl) })
        (λ (ne : j ≢ positionIn s n). record { from = j; inside = omega arith; other = ne; same = taken_others s n g place (sound_ok s k) p j ne; moved = inr (ne, refl) })
        (eq_or j (positionIn s n))

    -- and where an entry other than the chosen number has gone
    goes : (j : ℕ) → j < s.head.pending → j ≢ positionIn s n → (i : ℕ) × (i < s.head.pending - 1) × (pending_at rest i ≡ pending_at s j)
    goes j l ne =
        ⊎_elim
        (λ (e : j ≡ s.head.pending - 1). (positionIn s n, omega (arith, ne), taken_moved s n g place (sound_ok s k) p ∙ sym (ap (pending_at s) e)))
        (λ (q : j ≢ s.head.pending - 1). (j, omega (arith, q), taken_others s n g place (sound_ok s k) p j ne)) (eq_or j (s.head.pending - 1))

    not_chosen : (j : ℕ) (x : Had j) → pending_at rest j ≡ n → ⊥
    not_chosen j x e = x.other (same_position s k x.from (positionIn s n) x.inside p (sym x.same ∙ e ∙ sym (position_pending k n p)))

    out_chosen : Chosen rest
    out_chosen =
        record {
          settles = out_settles;
          lives_then = λ m l.
              ⊎_elim (λ (e : m ≡ n). inr e)
              (λ (ne : m ≢ n). inl (l.0, λ q. let (j, w, e) = q in let (i, v, d) = goes j w (λ z. ne (sym e ∙ ap (pending_at s) z ∙ position_pending k n p)) in l.1 (i, v, d ∙ e))) (eq_or m n);
          lives_also = λ m x.
              ⊎_elim (λ (l : Lives s m). (l.0, λ q. let (j, w, e) = q in let y = had j w in l.1 (y.from, y.inside, sym y.same ∙ e)))
              (λ (q : m ≡ n). (rw q h, λ r. let (j, w, e) = r in not_chosen j (had j w) (e ∙ q))) x;
          differ = λ i j a b e.
              let x = had i (omega arith) in
              let y = had j b in
              let q = same_position s k x.from y.from x.inside y.inside (sym x.same ∙ e ∙ y.same) in
              ⊎_elim (λ (u : (i ≡ positionIn s n) × (x.from ≡ s.head.pending - 1)). ⊎_elim (λ (v : (j ≡ positionIn s n) × (y.from ≡ s.head.pending - 1)). omega arith) (λ (v : (j ≡ positionIn s n → ⊥) × (y.from ≡ j)). omega arith) y.moved)
              (λ (u : (i ≡ positionIn s n → ⊥) × (x.from ≡ i)). ⊎_elim (λ (v : (j ≡ positionIn s n) × (y.from ≡ s.head.pending - 1)). omega arith) (λ (v : (j ≡ positionIn s n → ⊥) × (y.from ≡ j)). omega arith) y.moved) x.moved;
          below = λ j l. let x = had j l in omega (arith, x.same, k.pending_below x.from x.inside);
          empty = λ j l.
              let x = had j l in
              ap (place_at rest) x.same ∙ (out_settles.others (pending_at s x.from) (λ e. not_chosen j x (x.same ∙ e))).place_kept (k.pending_below x.from x.inside) ∙ k.pending_place x.from x.inside;
          nonzero = λ m l ne z. k.generation_nonzero m l (sym ((out_settles.others m ne).generation_kept l) ∙ z);
        }

  -- n live: it is taken over, and the same numbers live
  module _ (h : n < s.head.used) (p : s.head.pending ≤ positionIn s n) where
    over_settles : Settled s n g place (settled s n g place)
    over_settles = subst (λ (x : Option Place × Ids). Settled s n g place x.1) (at_live s place g n h p) settled_now

    over_chosen : Chosen (settled s n g place)
    over_chosen =
        record {
          settles = over_settles;
          lives_then = λ m l. inl l;
          lives_also = λ m x. ⊎_elim (λ (l : Lives s m). l) (λ (q : m ≡ n). rw q (h, position_past k n p)) x;
          differ = k.pending_differ;
          below = k.pending_below;
          empty = λ j l. (over_settles.others (pending_at s j) (λ e. position_past k n p (j, l, e))).place_kept (k.pending_below j l) ∙ k.pending_place j l;
          nonzero = λ m l ne z. k.generation_nonzero m l (sym ((over_settles.others m ne).generation_kept l) ∙ z);
        }

  chosen : Chosen after
  chosen =
      ⊎_elim
      (λ (h : n < s.head.used).
      ⊎_elim (λ (p : positionIn s n < s.head.pending). subst (λ (x : Option Place × Ids). Chosen x.1) (sym (at_pending s place g n h p)) (out_chosen h p)) (λ (p : s.head.pending ≤ positionIn s n). subst (λ (x : Option Place × Ids). Chosen x.1) (sym (at_live s place g n h p)) (over_chosen h p)) (below_or (positionIn s n) s.head.pending))
      (λ (h : s.head.used ≤ n). subst (λ (x : Option Place × Ids). Chosen x.1) (sym (at_past s place g n h)) (past_chosen h)) (below_or n s.head.used)

  pub chosen_sound : SoundIds (allocated_at s place g n).1
  chosen_sound = chosen_kept chosen

  pub chosen_lives : (m : ℕ) → Lives (allocated_at s place g n).1 m ↔ (Lives s m ⊎ (m ≡ n))
  chosen_lives m = (chosen.lives_then m, chosen.lives_also m)
