-- So many numbers become live, and then more: together they are the first of both. And what a cursor does not change.
-- Assumes nothing.
use Prim.Native.Nat.{ℕ, ◌+◌, ◌-◌, ◌<◌, ◌≤◌}
use native.Mathlib.Omega.{arith}
use mathlib.Core.Path.{◌≡◌, refl, sym, ap, ◌∙◌}
use mathlib.Core.Logic.{inl, inr, ⊎_elim}
use mathlib.Core.Bool.{true}
use lib.IntN.{ℤ, pos, negsuc}
use Rattle.id_tables.specs.Head.{free_of, new_of, flushed}
use Rattle.id_tables.specs.Ids.{Ids, EntryOk}
use Rattle.id_tables.proofs.Meaning.{flushed_free, flushed_new}
use Rattle.soundness.specs.Sound.{SoundIds}
use Rattle.soundness.proofs.Lists.{below_or, Between}
use Rattle.soundness.proofs.Meaning.{Old}
use Rattle.soundness.proofs.Growing.{Fresh, grown_head, Grown, used_is, pending_is, live_is, at_same, fresh_apart}
use Rattle.soundness.proofs.Handing.{with_cursor, fresh_join, fresh_split}
use Rattle.soundness.proofs.Keeping.{index_of}

-- the cursor says nothing of who becomes live
pub grown_cursor : {s t : Ids} {n : ℕ} (c : ℤ) → Grown (with_cursor s c) n t → Grown s n t
grown_cursor c g =
    record {
      ok = g.ok;
      head_is = g.head_is;
      pending_same = g.pending_same;
      generation_new = g.generation_new;
      generation_same = g.generation_same;
      placed = g.placed;
      place_same = g.place_same;
    }

module _ {s t : Ids} {i : ℕ} (g : Grown s i t) where
  -- what comes after the first i
  pub fresh_after : (n m : ℕ) → Fresh t 0 n m → Fresh s i (i + n) m
  fresh_after n m (inl o) = let (j, w, e) = o in inl (j, omega (arith, pending_is g), sym (at_same g j) ∙ e)
  fresh_after n m (inr b) = inr (omega (arith, pending_is g, used_is g))

  pub fresh_of_after : (n m : ℕ) → Fresh s i (i + n) m → Fresh t 0 n m
  fresh_of_after n m (inl o) = let (j, w, e) = o in inl (j, omega (arith, pending_is g), at_same g j ∙ e)
  fresh_of_after n m (inr b) = inr (omega (arith, pending_is g, used_is g))

  head_then : (n : ℕ) → grown_head t n ≡ grown_head s (i + n)
  head_then n =
      let u : t.head.used + (n - t.head.pending) ≡ s.head.used + (i + n - s.head.pending) = omega (arith, pending_is g, used_is g) in
      let p : t.head.pending - n ≡ s.head.pending - (i + n) = omega (arith, pending_is g) in
      let l : t.head.live + n ≡ s.head.live + (i + n) = omega (arith, live_is g) in
      rw (u, p, l)

  module _ (k : SoundIds s) {n : ℕ} {u : Ids} (h : Grown t n u) where
    early : (m : ℕ) → Fresh s 0 i m → Fresh s 0 (i + n) m
    early m x = fresh_join s 0 i (i + n) m (omega arith) (omega arith) (inl x)

    late : (m : ℕ) → Fresh t 0 n m → Fresh s 0 (i + n) m
    late m x = fresh_join s 0 i (i + n) m (omega arith) (omega arith) (inr (fresh_after n m x))

    pub grown_then : Grown s (i + n) u
    grown_then =
        record {
          ok = h.ok;
          head_is = h.head_is ∙ head_then n;
          pending_same = h.pending_same ∙ g.pending_same;
          generation_new = λ m x y.
              ⊎_elim (λ (z : m < t.head.used). h.generation_same m (inl z) ∙ g.generation_new m x (omega (arith, used_is g)))
              (λ (z : t.head.used ≤ m). h.generation_new m z (omega (arith, used_is g, pending_is g))) (below_or m t.head.used);
          generation_same = λ m x.
              ⊎_elim (λ (z : m < s.head.used). h.generation_same m (inl (omega (arith, used_is g))) ∙ g.generation_same m (inl z))
              (λ (z : s.head.used + (i + n - s.head.pending) ≤ m). h.generation_same m (inr (omega (arith, used_is g, pending_is g))) ∙ g.generation_same m (inr (omega arith))) x;
          placed = λ m x e.
              ⊎_elim
              (λ (y : Fresh s 0 i m). g.placed m y (sym (index_of (h.place_same m (λ z. fresh_apart k 0 i (i + n) m y (fresh_after n m z)))) ∙ e))
              (λ (y : Fresh s i (i + n) m). h.placed m (fresh_of_after n m y) e) (fresh_split s 0 i (i + n) m (omega arith) (omega arith) x);
          place_same = λ m x. h.place_same m (λ y. x (late m y)) ∙ g.place_same m (λ y. x (early m y));
        }

-- no more: the tables themselves, where nothing is reserved
still : (c : ℤ) (p : ℕ) → free_of c ≡ p → new_of c ≡ 0 → c ≡ pos p
still (pos n) p e z = ap pos e
still (negsuc n) p e z = absurd (omega arith)

pub grown_none : {s : Ids} → EntryOk s → flushed s.head ≡ true → Grown s 0 s
grown_none {s} ok f =
    let c = still s.head.cursor s.head.pending (flushed_free s.head f) (flushed_new s.head f) in
    let u : s.head.used + (0 - s.head.pending) ≡ s.head.used = omega arith in
    let p : s.head.pending - 0 ≡ s.head.pending = omega arith in
    let l : s.head.live + 0 ≡ s.head.live = omega arith in
    record {
      ok = ok;
      head_is = rw (u, p, l) (ap (λ (x : ℤ). record { used = s.head.used; pending = s.head.pending; cursor = x; live = s.head.live }) c);
      pending_same = refl;
      generation_new = λ m x y. absurd (omega arith);
      generation_same = λ m x. refl;
      placed = λ m x z. ⊎_elim (λ (o : Old s (s.head.pending - 0) (s.head.pending - 0) m). let (j, w, q) = o in omega arith) (λ (b : Between (s.head.used + (0 - s.head.pending)) (s.head.used + (0 - s.head.pending)) m). omega arith) x;
      place_same = λ m x. refl;
    }
