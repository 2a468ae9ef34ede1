-- Some of the numbers that are neither live nor reserved become live: the end of pending, and new numbers once that is empty.
-- What an alloc, an alloc many and a flush do to sound id tables, whatever rows they give.
-- Assumes nothing.
use Prim.Native.Nat.{ℕ, ◌+◌, ◌-◌, ◌<◌, ◌≤◌}
use native.Mathlib.Omega.{arith}
use mathlib.Core.Path.{◌≡◌, sym, ap, ◌∙◌}
use mathlib.Core.Logic.{◌⊎◌, inl, inr, ⊎_elim}
use mathlib.Core.List.{List}
use lib.ListN.{length, get_or}
use lib.Seq.{ext_get_or}
use Rattle.handle.specs.Bits.{MAX}
use Rattle.handle.specs.declared.Place.{Place}
use Rattle.id_tables.specs.declared.head.Head.{Head}
use Rattle.id_tables.specs.Head.{flushed_head}
use Rattle.id_tables.specs.Ids.{Ids, capacity, generation_at, index_at, place_at, EntryOk}
use Rattle.id_tables.proofs.Meaning.{ok_passes}
use Rattle.soundness.specs.Sound.{pending_at, Lives, SoundIds}
use Rattle.soundness.proofs.Lists.{below_or, Between}
use Rattle.soundness.proofs.Meaning.{Old, old?, sound_ok}

-- Counted from the end of pending: the numbers that come from lo to hi - 1.
abbrev pub Fresh : Ids → ℕ → ℕ → ℕ → Type 0
Fresh s lo hi m = Old s (s.head.pending - hi) (s.head.pending - lo) m ⊎ Between (s.head.used + (lo - s.head.pending)) (s.head.used + (hi - s.head.pending)) m

-- the counts after n of them have become live
abbrev pub grown_head : Ids → ℕ → Head
grown_head s n = flushed_head (s.head.used + (n - s.head.pending)) (s.head.pending - n) (s.head.live + n)

-- t is s after the first n have become live: each has a place, new ones have generation 1, and nothing else has changed
pub record Grown (s : Ids) (n : ℕ) (t : Ids) : Type 0 where
  pub ok : EntryOk t
  pub head_is : t.head ≡ grown_head s n
  pub pending_same : t.pending ≡ s.pending
  pub generation_new : (m : ℕ) → s.head.used ≤ m → m < s.head.used + (n - s.head.pending) → generation_at t m ≡ 1
  pub generation_same : (m : ℕ) → (m < s.head.used) ⊎ (s.head.used + (n - s.head.pending) ≤ m) → generation_at t m ≡ generation_at s m
  pub placed : (m : ℕ) → Fresh s 0 n m → index_at t m ≡ MAX → ⊥
  pub place_same : (m : ℕ) → (Fresh s 0 n m → ⊥) → place_at t m ≡ place_at s m

module _ {s t : Ids} {n : ℕ} (g : Grown s n t) where
  pub used_is : t.head.used ≡ s.head.used + (n - s.head.pending)
  used_is = ap (λ (h : Head). h.used) g.head_is

  pub pending_is : t.head.pending ≡ s.head.pending - n
  pending_is = ap (λ (h : Head). h.pending) g.head_is

  pub live_is : t.head.live ≡ s.head.live + n
  live_is = ap (λ (h : Head). h.live) g.head_is

  pub at_same : (j : ℕ) → pending_at t j ≡ pending_at s j
  at_same j = ap (λ (l : List ℕ). get_or l j 0) g.pending_same

  pub long_same : EntryOk s → capacity t ≡ capacity s
  long_same ok = sym g.ok.pending_long ∙ ap length g.pending_same ∙ ok.pending_long

-- two that grew alike have the same generations, all of them
pub same_generations : {s t u : Ids} {n : ℕ} → EntryOk s → Grown s n t → Grown s n u → t.generations ≡ u.generations
same_generations {s} {t} {u} {n} ok g h =
    ext_get_or 0 t.generations u.generations (long_same g ok ∙ sym (long_same h ok)) (λ m l. at m (below_or m s.head.used) (below_or m (s.head.used + (n - s.head.pending))))
  where
    at : (m : ℕ) → (m < s.head.used) ⊎ (s.head.used ≤ m) → (m < s.head.used + (n - s.head.pending)) ⊎ (s.head.used + (n - s.head.pending) ≤ m) → generation_at t m ≡ generation_at u m
    at m (inl a) b = g.generation_same m (inl a) ∙ sym (h.generation_same m (inl a))
    at m (inr a) (inl b) = g.generation_new m a b ∙ sym (h.generation_new m a b)
    at m (inr a) (inr b) = g.generation_same m (inr b) ∙ sym (h.generation_same m (inr b))

module _ {s : Ids} (k : SoundIds s) where
  -- they are not live, and within the capacity where there is room
  pub fresh_not_live : (lo hi m : ℕ) → Fresh s lo hi m → Lives s m → ⊥
  fresh_not_live lo hi m (inl o) l = let (j, w, e) = o in l.1 (j, omega arith, e)
  fresh_not_live lo hi m (inr b) l = let (x, y) = l in omega arith

  pub fresh_in : (lo hi m : ℕ) → hi ≤ s.head.pending + (capacity s - s.head.used) → Fresh s lo hi m → m < capacity s
  fresh_in lo hi m h (inl o) = let ok = sound_ok s k in let (j, w, e) = o in omega (arith, k.pending_below j (omega arith))
  fresh_in lo hi m h (inr b) = let ok = sound_ok s k in omega arith

  -- those of one run are not those of the next
  pub fresh_apart : (lo mid hi m : ℕ) → Fresh s lo mid m → Fresh s mid hi m → ⊥
  fresh_apart lo mid hi m (inl o) (inl u) =
      let (j, w, e) = o in let (i, v, q) = u in
      k.pending_differ i j (omega arith) (omega arith) (q ∙ sym e)
  fresh_apart lo mid hi m (inl o) (inr b) = let (j, w, e) = o in omega (arith, k.pending_below j (omega arith))
  fresh_apart lo mid hi m (inr b) (inl o) = let (j, w, e) = o in omega (arith, k.pending_below j (omega arith))
  fresh_apart lo mid hi m (inr b) (inr c) = omega arith

  module _ {n : ℕ} {t : Ids} (g : Grown s n t) where
    -- live then: what was live, and those n
    pub grown_lives : (m : ℕ) → Lives t m → Lives s m ⊎ Fresh s 0 n m
    grown_lives m l = by (below_or m s.head.used) (old? s (s.head.pending - n) s.head.pending m)
      where
        by : (m < s.head.used) ⊎ (s.head.used ≤ m) → Old s (s.head.pending - n) s.head.pending m ⊎ (Old s (s.head.pending - n) s.head.pending m → ⊥) → Lives s m ⊎ Fresh s 0 n m
        by (inl h) (inl o) = let (j, w, e) = o in inr (inl (j, omega arith, e))
        by (inl h) (inr no_old) =
            inl (h, λ o. let (j, w, e) = o in ⊎_elim (λ (z : j < s.head.pending - n). l.1 (j, rw (pending_is g) z, at_same g j ∙ e)) (λ (z : s.head.pending - n ≤ j). no_old (j, omega arith, e)) (below_or j (s.head.pending - n)))
        by (inr h) q = inr (inr (let x = l.0 in omega (arith, used_is g)))

    pub lives_grown : (m : ℕ) → Lives s m ⊎ Fresh s 0 n m → Lives t m
    lives_grown m (inl l) = let (x, y) = l in (omega (arith, used_is g), λ o. let (j, w, e) = o in y (j, omega (arith, pending_is g), sym (at_same g j) ∙ e))
    lives_grown m (inr (inl o)) =
        let (j, w, e) = o in
        let b = k.pending_below j (omega arith) in
        (omega (arith, used_is g), λ u. let (i, v, q) = u in k.pending_differ i j (omega (arith, pending_is g)) (omega arith) (sym (at_same g i) ∙ q ∙ sym e))
    lives_grown m (inr (inr b)) = (omega (arith, used_is g), λ u. let (j, w, e) = u in omega (arith, pending_is g, at_same g j, k.pending_below j (omega (arith, pending_is g))))

    -- what is left of pending is none of them
    left_over : (j : ℕ) → j < s.head.pending - n → Fresh s 0 n (pending_at s j) → ⊥
    left_over j h (inl o) = let (i, w, e) = o in k.pending_differ j i (omega arith) (omega arith) (sym e)
    left_over j h (inr b) = omega (arith, k.pending_below j (omega arith))

    pub grown_sound : SoundIds t
    grown_sound =
        record {
          head_rule = sym (ok_passes t g.ok);
          pending_differ = λ i j h l e. k.pending_differ i j h (omega (arith, pending_is g)) (sym (at_same g i) ∙ e ∙ at_same g j);
          pending_below = λ j h. omega (arith, at_same g j, used_is g, k.pending_below j (omega (arith, pending_is g)));
          pending_place = λ j h.
              let l : j < s.head.pending - n = omega (arith, pending_is g) in
              ap (place_at t) (at_same g j) ∙ g.place_same (pending_at s j) (left_over j l) ∙ k.pending_place j (omega arith);
          generation_nonzero = λ m h z.
              ⊎_elim (λ (l : m < s.head.used). k.generation_nonzero m l (sym (g.generation_same m (inl l)) ∙ z))
              (λ (l : s.head.used ≤ m). omega (arith, g.generation_new m l (omega (arith, used_is g))))
              (below_or m s.head.used);
          lives_placed = λ m l z.
              ⊎_elim (λ (q : Fresh s 0 n m). g.placed m q z)
              (λ (q : Fresh s 0 n m → ⊥).
              ⊎_elim (λ (w : Lives s m). k.lives_placed m w (sym (ap (λ (p : Place). p.index.0) (g.place_same m q)) ∙ z)) (λ (w : Fresh s 0 n m). q w) (grown_lives m l)) (fresh? n m);
        }
      where
        fresh? : (n m : ℕ) → Fresh s 0 n m ⊎ (Fresh s 0 n m → ⊥)
        fresh? n m =
            ⊎_elim (λ (o : Old s (s.head.pending - n) (s.head.pending - 0) m). inl (inl o))
            (λ (no_old : Old s (s.head.pending - n) (s.head.pending - 0) m → ⊥).
            ⊎_elim
            (λ (a : m < s.head.used + (0 - s.head.pending)). inr (λ x. ⊎_elim no_old (λ (b : Between (s.head.used + (0 - s.head.pending)) (s.head.used + (n - s.head.pending)) m). omega arith) x))
            (λ (a : s.head.used + (0 - s.head.pending) ≤ m).
            ⊎_elim (λ (b : m < s.head.used + (n - s.head.pending)). inl (inr (a, b))) (λ (b : s.head.used + (n - s.head.pending) ≤ m). inr (λ x. ⊎_elim no_old (λ (c : Between (s.head.used + (0 - s.head.pending)) (s.head.used + (n - s.head.pending)) m). omega arith) x)) (below_or m (s.head.used + (n - s.head.pending))))
            (below_or m (s.head.used + (0 - s.head.pending)))) (old? s (s.head.pending - n) (s.head.pending - 0) m)
