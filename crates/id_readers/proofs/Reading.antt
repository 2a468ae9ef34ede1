-- The reservation as its reader and as its span: the same refusals, the part that the span names, and beside reserve n what each contract promises.
-- Assumes nothing.
use Prim.{Unit, tt}
use Prim.Native.Nat.{ℕ, ◌≤◌}
use mathlib.Core.List.{List, ◌++◌}
use native.Mathlib.Omega.{arith}
use mathlib.Core.Path.{◌≡◌, refl, sym, ap, ◌∙◌}
use lib.ListN.{length, drop}
use Rattle.refusal.specs.Table.{Answer, granted, refused, Did}
use Rattle.refusal.specs.Laws.{grant, refuse, not_refused, did_granted, did_refused}
use Rattle.id_tables.specs.Ids.{Ids, max_capacity}
use Rattle.id_tables.proofs.Parts.{part, part_is}
use Rattle.id_batches.specs.Reserve.{handles, reserving}
use Rattle.id_batches.proofs.Granted.{fallen_ids}
use Rattle.id_readers.specs.Reader.{Reader, reader_at, reader_in, reserving_part, reserving_span, reserving_reader, span_in, beside}
use Rattle.id_readers.proofs.Handing.{Hands, part_ok, as_granted, as_refused}

beside_refused : {A B S : Type 0} {m : ℕ} (a : Answer (Unit {0} × S)) (v : A) (w : B) → beside a v ≡ refused m → beside a w ≡ refused m
beside_refused (granted x) v w e = absurd (not_refused e)
beside_refused (refused k) v w e = ap refused (cc)

-- a reservation that is granted: its value is this one, and the part is granted and leaves the same
abbrev pub Granted : {A : Type 0} → Ids → ℕ → A → A → Ids → Type 0
Granted s n w v left = (reserving_part s n ≡ granted (tt, left)) × (v ≡ w) × (left ≡ fallen_ids s n)

taken_apart : {A : Type 0} (s : Ids) (n : ℕ) (w v : A) (left : Ids) (a : Answer (Unit {0} × Ids)) → reserving_part s n ≡ a → beside a w ≡ granted (v, left) → Granted s n w v left
taken_apart {A} s n w v left (granted x) q e =
    let both : ◌≡◌ {A = A × Ids} (w, x.1) (v, left) = cc in
    let l : x.1 ≡ left = ap (λ (y : A × Ids). y.1) both in
    let p = part_ok s n (sym q) in
    (q ∙ rw l, sym (ap (λ (y : A × Ids). y.0) both), sym l ∙ ap (λ (y : Unit {0} × Ids). y.1) p.1)
taken_apart s n w v left (refused k) q e = absurd (not_refused (sym e))

part_refused : {A : Type 0} {m : ℕ} (w : A) (a : Answer (Unit {0} × Ids)) → beside a w ≡ refused m → a ≡ refused m
part_refused w (granted x) e = absurd (not_refused e)
part_refused w (refused k) e = ap refused (cc)

module _ (s : Ids) (n : ℕ) where
  pub span_granted : (v : ℕ × ℕ × ℕ × ℕ) (left : Ids) → Did (reserving_span s n) s (granted v) left → Granted s n (span_in s n) v left
  unfolding reserving_span
  span_granted v left d = taken_apart s n (span_in s n) v left (reserving_part s n) refl (did_granted (reserving_span s n) d)

  pub reading_granted : (v : Reader) (left : Ids) → Did (reserving_reader s n) s (granted v) left → Granted s n (reader_in s n) v left
  unfolding reserving_reader
  reading_granted v left d =
      taken_apart s n (reader_in s n) v left (reserving_part s n) refl (did_granted (reserving_reader s n) d)

  pub reader_refused : {m : ℕ} {left : Ids} → Did (reserving_span s n) s (refused m) left → Did (reserving_reader s n) s (refused m) left
  unfolding reserving_span reserving_reader
  reader_refused d =
      let p = did_refused (reserving_span s n) d in
      rw p.1 (refuse (beside_refused (reserving_part s n) (span_in s n) (reader_in s n) p.0))

  module _ (v : ℕ × ℕ × ℕ × ℕ) (left : Ids) (d : Did (reserving_span s n) s (granted v) left) where
    pub span_fits : (v.0 ≤ v.1) × (v.1 ≤ length left.pending) × (v.1 ≤ max_capacity)
    span_fits =
        let p = span_granted v left d in
        let ok = (part_ok s n (sym p.0)).0.ok in
        rw (p.1, p.2) (omega arith, omega arith, omega arith)

    pub reader_granted : Did (reserving_reader s n) s (granted (reader_at (part v.0 v.1 left.pending) 0 v.2 v.3)) left
    unfolding reserving_reader
    reader_granted = let p = span_granted v left d in grant (rw (p.0, p.1, part_is _ _ left.pending, p.2))

-- What the contracts promise, beside reserve n with any output of n places: the same refusals, the same head, and the reader and the span are of the handles that are written.
module _ (s : Ids) (n : ℕ) (out : List ℕ) (h : n ≤ length out) where
  -- reserve n leaves the same and writes these handles, and the walk hands them out
  abbrev pub Like : Ids → Type 0
  Like left =
      (reserving s n out ≡ granted (tt, (left, handles s n ++ drop n out)))
      × Hands s.generations (reader_in s n) (handles s n)

  pub span_like : (v : ℕ × ℕ × ℕ × ℕ) (left : Ids) → Did (reserving_span s n) s (granted v) left → (v ≡ span_in s n) × Like left
  span_like v left d = let p = span_granted s n v left d in (p.1, as_granted s n out h (sym p.0))

  pub reader_like : (v : Reader) (left : Ids) → Did (reserving_reader s n) s (granted v) left → (v ≡ reader_in s n) × Like left
  reader_like v left d = let p = reading_granted s n v left d in (p.1, as_granted s n out h (sym p.0))

  pub span_refused_like : {m : ℕ} {left : Ids} → Did (reserving_span s n) s (refused m) left → (reserving s n out ≡ refused m) × (left ≡ s)
  unfolding reserving_span
  span_refused_like d =
      let p = did_refused (reserving_span s n) d in
      (as_refused s n out h (part_refused (span_in s n) (reserving_part s n) p.0), p.1)

  pub reader_refused_like : {m : ℕ} {left : Ids} → Did (reserving_reader s n) s (refused m) left → (reserving s n out ≡ refused m) × (left ≡ s)
  unfolding reserving_reader
  reader_refused_like d =
      let p = did_refused (reserving_reader s n) d in
      (as_refused s n out h (part_refused (reader_in s n) (reserving_part s n) p.0), p.1)
