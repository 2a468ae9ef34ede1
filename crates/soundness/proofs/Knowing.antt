-- Whom the lookups know: while numbers are reserved, and after they have become live. Every other handle is looked up as before.
-- Assumes nothing.
use Prim.Native.Nat.{ℕ, ◌+◌, ◌-◌, ◌<◌, ◌≤◌}
use native.Mathlib.Omega.{arith}
use mathlib.Core.Path.{◌≡◌, refl, sym, ap, ◌∙◌}
use mathlib.Core.Logic.{◌⊎◌, inl, inr, ⊎_elim, ◌↔◌}
use mathlib.Core.Bool.{Bool, true, false}
use lib.IntN.{ℤ}
use lib.ListN.{length}
use lib.Seq.{slice, length-slice}
use Rattle.refusal.specs.Table.{granted, refused}
use Rattle.handle.specs.Bits.{MAX, place_of}
use Rattle.id_tables.specs.Head.{free_of, new_of, flushed}
use Rattle.id_tables.specs.Ids.{Ids, generation_at, live}
use Rattle.id_tables.specs.Lookup.{is_reserved_old, reserved_new, is_contained, place_got}
use Rattle.id_tables.proofs.Meaning.{flushed_new, head_flushed, flushed_contained}
use Rattle.id_tables.proofs.Laws.{any_at, any_found, old_means, is_old, new_means, is_new_lem, new_below, contained, live_contained, old_contained, new_contained, got_live, got_new, got_none}
use Rattle.id_batches.proofs.Numbers.{slice_at}
use Rattle.soundness.specs.Sound.{pending_at, Lives, SoundIds}
use Rattle.soundness.proofs.Lists.{below_or}
use Rattle.soundness.proofs.Meaning.{Old, sound_ok, live_lives, lives_live}
use Rattle.soundness.proofs.Growing.{Fresh, Grown, used_is, fresh_not_live, grown_lives, lives_grown, grown_sound}
use Rattle.soundness.proofs.Handing.{with_cursor, After, gen_of, gen_old, gen_new}

-- a generation and a number that are one of the first n to be handed out
abbrev pub Handed : Ids → ℕ → ℕ → ℕ → Type 0
Handed s n g m = Fresh s 0 n m × (g ≡ gen_of s m)

-- two tests that hold together are one
pub same_test : (a b : Bool) → (a ≡ true → b ≡ true) → (b ≡ true → a ≡ true) → a ≡ b
same_test true b f h = sym (f refl)
same_test false true f h = h refl
same_test false false f h = refl

-- a test that would be absurd does not hold
pub fails : (a : Bool) → (a ≡ true → ⊥) → a ≡ false
fails true f = absurd (f refl)
fails false f = refl

-- with nothing reserved no new number is
pub none_new : (s : Ids) (g m : ℕ) → flushed s.head ≡ true → reserved_new s.head g m ≡ false
none_new s g m f = fails (reserved_new s.head g m) (λ e. let r = new_means s g m e in omega (arith, r.past_used, r.within, flushed_new s.head f))

pub grown_flushed : {s t : Ids} {n : ℕ} → Grown s n t → flushed t.head ≡ true
grown_flushed g = rw g.head_is (head_flushed _ _ _)

-- after n numbers have become live
module _ {s : Ids} (k : SoundIds s) {n : ℕ} {t : Ids} (w : Grown s n t) where
  -- the generation of a number that is used then
  pub gen_then : (m : ℕ) → m < t.head.used → generation_at t m ≡ gen_of s m
  gen_then m h =
      ⊎_elim (λ (x : m < s.head.used). w.generation_same m (inl x) ∙ sym (gen_old s m x))
      (λ (x : s.head.used ≤ m). w.generation_new m x (omega (arith, used_is w)) ∙ sym (gen_new s m x)) (below_or m s.head.used)

  pub gen_kept : (m : ℕ) → gen_of t m ≡ gen_of s m
  gen_kept m =
      ⊎_elim (λ (x : m < t.head.used). gen_old t m x ∙ gen_then m x) (λ (x : t.head.used ≤ m). gen_new t m x ∙ sym (gen_new s m (omega (arith, used_is w)))) (below_or m t.head.used)

  pub live_then : (g m : ℕ) → (live t g m ≡ true) ↔ ((live s g m ≡ true) ⊎ Handed s n g m)
  live_then g m = (
    λ e. let (l, q) = live_lives t (grown_sound k w) g m e in
        ⊎_elim (λ (x : Lives s m). inl (lives_live s k g m x (sym (w.generation_same m (inl x.0)) ∙ q))) (λ (x : Fresh s 0 n m). inr (x, sym q ∙ gen_then m l.0)) (grown_lives k w m l),
    λ x. ⊎_elim
        (λ (e : live s g m ≡ true). let (l, q) = live_lives s k g m e in lives_live t (grown_sound k w) g m (lives_grown k w m (inl l)) (w.generation_same m (inl l.0) ∙ q))
        (λ (e : Handed s n g m). let l = lives_grown k w m (inr e.0) in lives_live t (grown_sound k w) g m l (gen_then m l.0 ∙ sym e.1)) x,
  )

  -- every other handle
  module _ (f : flushed s.head ≡ true) (g m : ℕ) (out : Handed s n g m → ⊥) where
    pub live_other : live t g m ≡ live s g m
    live_other =
        same_test (live t g m) (live s g m) (λ e. ⊎_elim (λ (x : live s g m ≡ true). x) (λ (x : Handed s n g m). absurd (out x)) ((live_then g m).0 e)) (λ e. (live_then g m).1 (inl e))

    pub contained_other : is_contained t g m ≡ is_contained s g m
    contained_other = flushed_contained t g m (grown_flushed w) ∙ live_other ∙ sym (flushed_contained s g m f)

    pub got_other : place_got t g m ≡ place_got s g m
    got_other = by (live s g m) refl
      where
        by : (b : Bool) → live s g m ≡ b → place_got t g m ≡ place_got s g m
        by true e =
            got_live t g m (live_other ∙ e) ∙ ap granted (w.place_same m (λ x. fresh_not_live k 0 n m x (live_lives s k g m e).0)) ∙ sym (got_live s g m e)
        by false e = got_none t g m (live_other ∙ e) (none_new t g m (grown_flushed w)) ∙ sym (got_none s g m e (none_new s g m f))

-- while n numbers are reserved
module _ {s : Ids} (k : SoundIds s) {n : ℕ} {c : ℤ} (a : After s n c) where
  abbrev between : Ids
  between = with_cursor s c

  old_part : (m : ℕ) → is_reserved_old between (generation_at s m) m ≡ true → Old s (s.head.pending - n) s.head.pending m
  old_part m e =
      let ok = sound_ok s k in
      let o = old_means between (generation_at s m) m e in
      let (i, h, q) = any_found m (slice (free_of c) s.head.pending s.pending) o.listed in
      let l = length-slice (free_of c) s.head.pending s.pending (omega arith) in
      (free_of c + i, omega (arith, a.free), sym (slice_at (free_of c) s.head.pending s.pending (omega arith) i h) ∙ q)

  pub contained_then : (g m : ℕ) → (is_contained between g m ≡ true) ↔ ((live s g m ≡ true) ⊎ Handed s n g m)
  contained_then g m = (
    λ e. ⊎_elim (λ (x : live s g m ≡ true). inl x)
        (λ x. inr (⊎_elim
        (λ (y : is_reserved_old between g m ≡ true).
        let o = old_means between g m y in
        let p = old_part m (rw (sym o.generation) at y) in
        let (j, h, q) = p in
        (inl (j, omega arith, q), sym o.generation ∙ sym (gen_old s m o.below)))
        (λ (y : reserved_new between.head g m ≡ true).
        let r = new_means between g m y in
        (inr (omega (arith, r.past_used, r.within, a.new)), r.generation ∙ sym (gen_new s m r.past_used))) x))
        (contained between g m e),
    λ x. ⊎_elim (λ (e : live s g m ≡ true). live_contained between g m e) (λ (e : Handed s n g m). held e.0 e.1) x,
  )
    where
      held : Fresh s 0 n m → g ≡ gen_of s m → is_contained between g m ≡ true
      held (inl o) e =
          let ok = sound_ok s k in
          let (j, h, q) = o in
          let b : m < s.head.used = rw q at (k.pending_below j (omega arith)) in
          let l = length-slice (free_of c) s.head.pending s.pending (omega arith) in
          let i : j - free_of c < length (slice (free_of c) s.head.pending s.pending) = omega (arith, a.free) in
          let z : free_of c + (j - free_of c) ≡ j = omega (arith, a.free) in
          let r = slice_at (free_of c) s.head.pending s.pending (omega arith) (j - free_of c) i in
          old_contained between g m (is_old between g m (record { below = b; generation = sym (gen_old s m b) ∙ sym e; listed = any_at m _ (j - free_of c) i (r ∙ ap (pending_at s) z ∙ q) }))
      held (inr b) e =
          let u : s.head.used ≤ m = omega arith in
          new_contained between g m (is_new_lem between g m (record { generation = e ∙ gen_new s m u; past_used = u; within = omega (arith, a.new) }))

  -- get of a handle that is handed out: (0, MAX) for a new number, 2 for a recycled one
  pub got_handed_new : (g m : ℕ) → Handed s n g m → s.head.used ≤ m → place_got between g m ≡ granted (place_of 0 MAX)
  got_handed_new g m h u = got_new between g m (is_new_lem between g m (record { generation = h.1 ∙ gen_new s m u; past_used = u; within = inside h.0 }))
    where
      inside : Fresh s 0 n m → m < s.head.used + new_of c
      inside (inl o) = let (j, w, q) = o in absurd (omega (arith, k.pending_below j (omega arith)))
      inside (inr b) = omega (arith, a.new)

  pub got_handed_old : (g m : ℕ) → Handed s n g m → m < s.head.used → place_got between g m ≡ refused 2
  got_handed_old g m h u = got_none between g m (fails (live s g m) (λ e. fresh_not_live k 0 n m h.0 (live_lives s k g m e).0)) (new_below between.head g m u)

  -- every other handle
  module _ (f : flushed s.head ≡ true) (g m : ℕ) (out : Handed s n g m → ⊥) where
    pub contained_kept : is_contained between g m ≡ is_contained s g m
    contained_kept =
        same_test (is_contained between g m) (live s g m) (λ e. ⊎_elim (λ (x : live s g m ≡ true). x) (λ (x : Handed s n g m). absurd (out x)) ((contained_then g m).0 e)) (λ e. (contained_then g m).1 (inl e))
        ∙ sym (flushed_contained s g m f)

    none_between : reserved_new between.head g m ≡ false
    none_between = fails (reserved_new between.head g m) (λ r. let q = new_means between g m r in out (inr (omega (arith, q.past_used, q.within, a.new)), q.generation ∙ sym (gen_new s m q.past_used)))

    pub new_kept : reserved_new between.head g m ≡ reserved_new s.head g m
    new_kept = none_between ∙ sym (none_new s g m f)

    pub got_kept : place_got between g m ≡ place_got s g m
    got_kept = by (live s g m) refl
      where
        by : (b : Bool) → live s g m ≡ b → place_got between g m ≡ place_got s g m
        by true e = got_live between g m e ∙ sym (got_live s g m e)
        by false e =
            got_none between g m e none_between
            ∙ sym (got_none s g m e (none_new s g m f))
