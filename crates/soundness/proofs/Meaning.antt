-- What sound id tables say: no pending entry is damaged, and a handle is live where its number is neither pending nor past used.
-- Assumes nothing.
use Prim.Native.Nat.{ℕ, zero, suc, ◌+◌, ◌-◌, ◌<◌, ◌≤◌}
use native.Mathlib.Omega.{arith}
use native.Mathlib.Nat.{add-zero}
use native.Mathlib.Numerals.{add-one}
use mathlib.Core.Path.{◌≡◌, sym, ap, ◌∙◌}
use mathlib.Core.Logic.{◌≢◌, ◌⊎◌, inl, inr, ⊎_elim}
use mathlib.Core.Bool.{true, false}
use mathlib.Core.List.Memᴰ
use mathlib.Core.List.{List, ◌∷◌, map}
use lib.ListN.{length, get_or, drop}
use lib.Seq.{slice, length-slice, slice-cons, slice_empty}
use Rattle.handle.specs.declared.Place.{Place}
use Rattle.id_tables.specs.Ids.{Ids, generation_at, live, any_damaged, any_damaged_in, EntryOk}
use Rattle.id_tables.specs.Runs.{up_from, up_from_none, up_from_cons, length_up_from}
use Rattle.id_tables.proofs.Entering.{entry_ok}
use Rattle.id_tables.proofs.Meaning.{Undamaged, not_damaged, lives, is_live}
use Rattle.id_tables.proofs.Damage.{damage_next, damage_none}
use Rattle.id_batches.proofs.Numbers.{Each, slice_at}
use Rattle.soundness.specs.Sound.{pending_at, Pending, Lives, SoundIds}
use Rattle.soundness.proofs.Lists.{below_or, eq_or, Mem, Lists, lists_as, lists_map, lists_up, at_most}

-- what stands at a position from a to b - 1 of pending
abbrev pub Old : Ids → ℕ → ℕ → ℕ → Type 0
Old s a b n = (j : ℕ) × ((a ≤ j) × (j < b)) × (pending_at s j ≡ n)

pub old? : (s : Ids) (a b n : ℕ) → Old s a b n ⊎ (Old s a b n → ⊥)
old? s a zero n = inr (λ o. let (j, h, e) = o in omega arith)
old? s a (suc b) n =
    ⊎_elim (λ (o : Old s a b n). let (j, h, e) = o in inl (j, omega arith, e)) (λ (no_old : Old s a b n → ⊥). last no_old (below_or b a) (eq_or (pending_at s b) n)) (old? s a b n)
  where
    last : (Old s a b n → ⊥) → (b < a) ⊎ (a ≤ b) → (pending_at s b ≡ n) ⊎ (pending_at s b ≢ n) → Old s a (suc b) n ⊎ (Old s a (suc b) n → ⊥)
    last no_old (inl h) q = inr (λ o. let (j, k, e) = o in omega arith)
    last no_old (inr h) (inl e) = inl (b, omega arith, e)
    last no_old (inr h) (inr d) =
        inr (λ o. let (j, k, e) = o in ⊎_elim (λ (z : j ≡ b). d (rw z at e)) (λ (z : j ≢ b). no_old (j, omega arith, e)) (eq_or j b))

-- pending or not
pub pending? : (s : Ids) (n : ℕ) → Pending s n ⊎ (Pending s n → ⊥)
pending? s n =
    ⊎_elim (λ (o : Old s 0 s.head.pending n). let (j, h, e) = o in inl (j, h.1, e)) (λ (no_old : Old s 0 s.head.pending n → ⊥). inr (λ p. let (j, h, e) = p in no_old (j, omega arith, e)))
    (old? s 0 s.head.pending n)

-- a part of a table, by positions
slice_map : (l : List ℕ) (k a : ℕ) → a + k ≤ length l → slice a (a + k) l ≡ map (λ (j : ℕ). get_or l j 0) (up_from a k)
slice_map l zero a h = rw (add-zero a, up_from_none a) (slice_empty a l)
slice_map l (suc k) a h =
    let e : a + suc k ≡ a + 1 + k = omega arith in
    rw (up_from_cons a k)
    (slice-cons a (a + suc k) l 0 (omega arith) h ∙ ap (λ (xs : List ℕ). get_or l a 0 ∷ xs) (rw (← add-one a, e) (slice_map l k (a + 1) (omega arith))))

-- numbers that are all whole: a scan finds no damage
module _ (used : ℕ) (generations indices ns : List ℕ) (w : Each (Undamaged used generations indices) ns) where
  scan_whole : (left i : ℕ) → i + left ≡ length ns → any_damaged_in used generations indices (drop i ns) ≡ false
  scan_whole zero i e = damage_none used generations indices ns i (omega arith)
  scan_whole (suc left) i e =
      damage_next used generations indices ns i (omega arith) (not_damaged used generations indices (get_or ns i 0) (w i (omega arith)))
      ∙ scan_whole left (i + 1) (omega arith)

  pub all_whole : any_damaged_in used generations indices ns ≡ false
  all_whole = scan_whole (length ns) 0 (omega arith)

module _ (s : Ids) (k : SoundIds s) where
  pub sound_ok : EntryOk s
  sound_ok = entry_ok s false k.head_rule

  -- a pending entry is not damaged
  pub pending_whole : (j : ℕ) → j < s.head.pending → Undamaged s.head.used s.generations s.indices (pending_at s j)
  pending_whole j h =
      record {
        below = k.pending_below j h;
        generation = k.generation_nonzero (pending_at s j) (k.pending_below j h);
        index = ap (λ (p : Place). p.index.0) (k.pending_place j h);
      }

  pub part_whole : (from to : ℕ) → to ≤ s.head.pending → any_damaged s (slice from to s.pending) ≡ false
  part_whole from to h =
      let ok = sound_ok in
      let ends : to ≤ length s.pending = omega arith in
      all_whole _ _ _ (slice from to s.pending)
      (λ i l. rw (slice_at from to s.pending ends i l) (pending_whole (from + i) (omega (arith, length-slice from to s.pending ends))))

  -- live, by the test that the calls run: neither pending nor past used, at its generation
  pub live_lives : (g n : ℕ) → live s g n ≡ true → Lives s n × (generation_at s n ≡ g)
  live_lives g n e =
      let l = lives _ _ _ g n e in
      ((l.below, λ p. let (j, h, q) = p in l.index (rw q at (pending_whole j h).index)), l.generation)

  pub lives_live : (g n : ℕ) → Lives s n → generation_at s n ≡ g → live s g n ≡ true
  lives_live g n l e = is_live _ _ _ g n (record { below = l.0; generation = e; index = k.lives_placed n l })

  -- two positions of one pending number are one
  pub same_position : (i j : ℕ) → i < s.head.pending → j < s.head.pending → pending_at s i ≡ pending_at s j → i ≡ j
  same_position i j x y r =
      ⊎_elim (λ (z : i < j). absurd (k.pending_differ i j z y r))
      (λ (z : j ≤ i). ⊎_elim (λ (w : j < i). absurd (k.pending_differ j i w x (sym r))) (λ (w : i ≤ j). omega arith) (below_or j i)) (below_or i j)

  -- the entries from a to b - 1, each once
  pub old_lists : (a b : ℕ) → a ≤ b → b ≤ s.head.pending → Lists (Old s a b) (slice a b s.pending)
  old_lists a b h l =
      let ok = sound_ok in
      let e : a + (b - a) ≡ b = omega arith in
      let q : slice a b s.pending ≡ map (pending_at s) (up_from a (b - a)) = rw e at (slice_map s.pending (b - a) a (omega arith)) in
      rw q
      (lists_as (λ n x. let (j, w, r) = x in (j, w, sym r)) (λ n x. let (j, w, r) = x in (j, w, sym r))
      (lists_map (pending_at s) (λ i j x y r. same_position i j (omega arith) (omega arith) r) (lists_up a b)))

  -- where a number lives the live count is not 0: the pending ones are too few to be all below used
  pub some_live : (n : ℕ) → Lives s n → s.head.live ≡ 0 → ⊥
  some_live n l e =
      let ok = sound_ok in
      let ps = slice 0 s.head.pending s.pending in
      let o = old_lists 0 s.head.pending (omega arith) (omega arith) in
      let u = lists_up 0 s.head.used in
      let m : length (n ∷ ps) ≤ length (up_from 0 (s.head.used - 0)) = at_most (n ∷ ps) (up_from 0 (s.head.used - 0))
      (λ x. let (j, w, r) = o.only n x in l.1 (j, w.1, r), o.once)
      (λ z x. u.all z (⊎_elim (λ (q : z ≡ n). (omega arith, rw q l.0)) (λ (y : Mem z ps). let (j, w, r) = o.only z y in (omega arith, rw r at (k.pending_below j w.1))) (Memᴰ.cases_cons x))) in
      omega (arith, m, length_up_from 0 (s.head.used - 0), length-slice 0 s.head.pending s.pending (omega arith))
