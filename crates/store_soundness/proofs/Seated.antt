-- Rows and places in step for the numbers with a predicate, and the two steps that change them: a row leaves, rows are taken.
-- Assumes nothing.
use Prim.Native.Nat.{ℕ, ◌+◌, ◌-◌, ◌<◌, ◌≤◌}
use native.Mathlib.Omega.{arith}
use mathlib.Core.Path.{◌≡◌, sym, ap, ◌∙◌}
use mathlib.Core.Logic.{◌⊎◌, inl, inr, ⊎_elim}
use lib.ListN.{get_or}
use Rattle.handle.specs.Bits.{place_of}
use Rattle.handle.specs.declared.Place.{Place}
use Rattle.id_tables.specs.Ids.{Ids, index_at, place_at}
use Rattle.decl.specs.Decl.{Decl, archetypes}
use Rattle.row_step.specs.Tables.{Rows, count_of, last_of}
use Rattle.row_step.proofs.Held.{same_or_not}
use Rattle.decl.proofs.Lists.{below_or_not}
use Rattle.column_entry.specs.Kept.{Ready, There}
use Rattle.columns.specs.Calls.{number_at, removed_from}
use Rattle.columns.proofs.Held.{removed_number, removed_others, removed_count, removed_counts_kept}

-- the archetype of a number's place
abbrev pub archetype_at : Ids → ℕ → ℕ
archetype_at i n = get_or i.archetypes n 0

-- number n stands in the row that its place names
pub record Seat (d : Decl) (w : Rows) (i : Ids) (n : ℕ) : Type 0 where
  pub archetype_in : archetype_at i n < archetypes d
  pub row_in : index_at i n < count_of w (archetype_at i n)
  pub holds : number_at d w (archetype_at i n) (index_at i n) ≡ n

pub record Seated (d : Decl) (w : Rows) (i : Ids) (L : ℕ → Type 0) : Type 0 where
  -- a row in use names a number with L, and is its place
  pub named : (a r : ℕ) → a < archetypes d → r < count_of w a → L (number_at d w a r)
  pub place : (a r : ℕ) → a < archetypes d → r < count_of w a → place_at i (number_at d w a r) ≡ place_of a r
  -- and every number with L is named
  pub seat : (n : ℕ) → L n → Seat d w i n

-- the two parts of a place
pub archetype_is : (i : Ids) (n a r : ℕ) → place_at i n ≡ place_of a r → archetype_at i n ≡ a
archetype_is i n a r e = ap (λ (p : Place). p.archetype) e

pub row_is : (i : Ids) (n a r : ℕ) → place_at i n ≡ place_of a r → index_at i n ≡ r
row_is i n a r e = ap (λ (p : Place). p.index.0) e

-- the same predicate in other words
pub seated_as : {d : Decl} {w : Rows} {i : Ids} {L K : ℕ → Type 0} → ((n : ℕ) → L n → K n) → ((n : ℕ) → K n → L n) → Seated d w i L → Seated d w i K
seated_as to back s =
    record { named = λ a r h k. to _ (s.named a r h k); place = s.place; seat = λ n l. s.seat n (back n l) }

-- A row leaves: the number of the last row falls into it and is placed there.
module _ (d : Decl) (w : Rows) (i : Ids) (L : ℕ → Type 0) (ready : Ready d w) (s : Seated d w i L) (n : ℕ) (l : L n) where
  abbrev a : ℕ
  a = archetype_at i n

  abbrev r : ℕ
  r = index_at i n

  abbrev v : ℕ
  v = number_at d w a (last_of w a)

  there : There d w a r
  there = record { ready = ready; archetype_in = (s.seat n l).archetype_in; row_in = (s.seat n l).row_in }

  -- the last row's number
  pub last_named : L v
  last_named = s.named a (last_of w a) (s.seat n l).archetype_in (omega (arith, (s.seat n l).row_in))

  pub last_place_lem : place_at i v ≡ place_of a (last_of w a)
  last_place_lem = s.place a (last_of w a) (s.seat n l).archetype_in (omega (arith, (s.seat n l).row_in))

  -- what is left of places
  module _ (j : Ids) (moved : (r ≡ last_of w a → ⊥) → place_at j v ≡ place_of a r)
      (others : (m : ℕ) → L m → (m ≡ n → ⊥) → ((r ≡ last_of w a → ⊥) → m ≡ v → ⊥) → place_at j m ≡ place_at i m) where
    abbrev left : Rows
    left = removed_from d w a r

    -- a row in use then was in use, and is not the last one of a
    was_used : (b q : ℕ) → q < count_of left b → q < count_of w b
    was_used b q h =
        ⊎_elim (λ (e : b ≡ a). rw e (omega (arith, removed_count d w a r there, rw e at h)))
        (λ (e : b ≡ a → ⊥). rw (removed_counts_kept d w a r there b e) at h) (same_or_not b a)

    not_last : (b q : ℕ) → q < count_of left b → b ≡ a → q < last_of w a
    not_last b q h e = rw (e, removed_count d w a r there) at h

    -- a row other than the one that left
    module _ (b q : ℕ) (hb : b < archetypes d) (hq : q < count_of left b) (ne : b ≡ a → q ≡ r → ⊥) where
      same : number_at d left b q ≡ number_at d w b q
      same = removed_others d w a r there b q (omega (arith, was_used b q hq, ready.counts_in b)) ne

      not_n : number_at d w b q ≡ n → ⊥
      not_n e =
          let p : place_at i n ≡ place_of b q = rw e at (s.place b q hb (was_used b q hq)) in
          ne (sym (archetype_is i n b q p)) (sym (row_is i n b q p))

      not_v : number_at d w b q ≡ v → ⊥
      not_v e =
          let p : place_of b q ≡ place_of a (last_of w a) = sym (s.place b q hb (was_used b q hq)) ∙ ap (λ (m : ℕ). place_at i m) e ∙ last_place_lem in
          omega (arith, not_last b q hq (ap (λ (x : Place). x.archetype) p), ap (λ (x : Place). x.index.0) p)

      other_named : L (number_at d left b q) × (number_at d left b q ≡ n → ⊥)
      other_named = rw same (s.named b q hb (was_used b q hq), not_n)

      other_place : place_at j (number_at d left b q) ≡ place_of b q
      other_place = rw same (others (number_at d w b q) (s.named b q hb (was_used b q hq)) not_n (λ _. not_v) ∙ s.place b q hb (was_used b q hq))

    -- the row that left, where it was not the last
    module _ (h : r < last_of w a) where
      fallen : number_at d left a r ≡ v
      fallen = removed_number d w a r there

      fallen_other : v ≡ n → ⊥
      fallen_other e = omega (arith, row_is i n a (last_of w a) (rw e at last_place_lem))

      fallen_named : L (number_at d left a r) × (number_at d left a r ≡ n → ⊥)
      fallen_named = rw fallen (last_named, fallen_other)

      fallen_place : place_at j (number_at d left a r) ≡ place_of a r
      fallen_place = rw fallen (moved (λ e. omega arith))

    here_or : {P : Type 0} (b q : ℕ) → ((b ≡ a) × (q ≡ r) → P) → ((b ≡ a → q ≡ r → ⊥) → P) → P
    here_or b q f g = ⊎_elim (λ (e : b ≡ a). ⊎_elim (λ (k : q ≡ r). f (e, k)) (λ k. g (λ _. k)) (same_or_not q r)) (λ e. g (λ k _. e k)) (same_or_not b a)

    pub vacated_seated : Seated d left j (λ (m : ℕ). L m × (m ≡ n → ⊥))
    vacated_seated =
        record {
          named = λ b q hb hq. here_or b q
              (λ (e : (b ≡ a) × (q ≡ r)). rw (e.0, e.1) (fallen_named (rw e.1 at (not_last b q hq e.0))))
              (λ ne. other_named b q hb hq ne);
          place = λ b q hb hq. here_or b q
              (λ (e : (b ≡ a) × (q ≡ r)). rw (e.0, e.1) (fallen_place (rw e.1 at (not_last b q hq e.0))))
              (λ ne. other_place b q hb hq ne);
          seat = λ m k. seat m k.0 k.1;
        }
      where
        -- the moved number
        moved_seat : (v ≡ n → ⊥) → Seat d left j v
        moved_seat ne =
            let e : r ≡ last_of w a → ⊥ = λ k. ne (ap (λ (x : ℕ). number_at d w a x) (sym k) ∙ (s.seat n l).holds) in
            let h : r < last_of w a = omega (arith, e, (s.seat n l).row_in) in
            let p = moved e in
            record {
              archetype_in = rw (archetype_is j v a r p) (s.seat n l).archetype_in;
              row_in = rw (archetype_is j v a r p, row_is j v a r p, removed_count d w a r there) h;
              holds = rw (archetype_is j v a r p, row_is j v a r p) (removed_number d w a r there);
            }

        -- any other
        other_seat : (m : ℕ) → L m → (m ≡ n → ⊥) → (m ≡ v → ⊥) → Seat d left j m
        other_seat m k ne nv =
            let p = others m k ne (λ _. nv) in
            let t = s.seat m k in
            let ea : archetype_at j m ≡ archetype_at i m = ap (λ (x : Place). x.archetype) p in
            let er : index_at j m ≡ index_at i m = ap (λ (x : Place). x.index.0) p in
            record {
              archetype_in = rw ea t.archetype_in;
              row_in = rw (ea, er) (still m k nv);
              holds = rw (ea, er) (removed_others d w a r there (archetype_at i m) (index_at i m) (omega (arith, t.row_in, ready.counts_in (archetype_at i m)))
                  (λ x y. ne (sym t.holds ∙ rw (x, y) (s.seat n l).holds)) ∙ t.holds);
            }
          where
            still : (m : ℕ) → L m → (m ≡ v → ⊥) → index_at i m < count_of left (archetype_at i m)
            still m k nv =
                let t = s.seat m k in
                ⊎_elim
                (λ (e : archetype_at i m ≡ a).
                let d' : index_at i m ≡ last_of w a → ⊥ = λ u. nv (sym t.holds ∙ rw (e, u)) in
                let h : index_at i m < count_of w a = rw e at t.row_in in
                rw (e, removed_count d w a r there) (omega (arith, d')))
                (λ (e : archetype_at i m ≡ a → ⊥). rw (removed_counts_kept d w a r there (archetype_at i m) e) t.row_in)
                (same_or_not (archetype_at i m) a)

        seat : (m : ℕ) → L m → (m ≡ n → ⊥) → Seat d left j m
        seat m k ne = ⊎_elim (λ (e : m ≡ v). rw e (moved_seat (λ u. ne (e ∙ u)))) (λ (e : m ≡ v → ⊥). other_seat m k ne e) (same_or_not m v)

-- Rows are taken: k numbers, each in the next unused row of archetype a, with that row as its place.
pub record Joins (d : Decl) (w u : Rows) (i j : Ids) (L : ℕ → Type 0) (a k : ℕ) (f : ℕ → ℕ) : Type 0 where
  pub count_here : count_of u a ≡ count_of w a + k
  pub count_other : (b : ℕ) → (b ≡ a → ⊥) → count_of u b ≡ count_of w b
  pub number_here_lem : (x : ℕ) → x < k → number_at d u a (count_of w a + x) ≡ f x
  pub number_other : (b q : ℕ) → b < archetypes d → q < count_of w b → number_at d u b q ≡ number_at d w b q
  pub place_here : (x : ℕ) → x < k → place_at j (f x) ≡ place_of a (count_of w a + x)
  pub place_other : (m : ℕ) → L m → place_at j m ≡ place_at i m

-- m is one of them
abbrev pub Among : ℕ → (ℕ → ℕ) → ℕ → Type 0
Among k f m = (x : ℕ) × (x < k) × (f x ≡ m)

module _ {d : Decl} {w u : Rows} {i j : Ids} {a k : ℕ} {f : ℕ → ℕ} {L : ℕ → Type 0} (s : Seated d w i L) (h : a < archetypes d)
    (g : Joins d w u i j L a k f) where
  -- a row in use then was in use, or is one of those taken
  used_or : {P : Type 0} (b q : ℕ) → q < count_of u b → (q < count_of w b → P) → ((b ≡ a) → (x : ℕ) → x < k → q ≡ count_of w a + x → P) → P
  used_or b q hq old new =
      ⊎_elim old
      (λ (o : count_of w b ≤ q). ⊎_elim
      (λ (e : b ≡ a).
      let hq' : q < count_of u a = rw e at hq in
      let o' : count_of w a ≤ q = rw e at o in
      new e (q - count_of w a) (omega (arith, g.count_here)) (omega arith))
      (λ (e : b ≡ a → ⊥). absurd (omega (arith, g.count_other b e))) (same_or_not b a))
      (below_or_not q (count_of w b))

  pub joined_seated : Seated d u j (λ (m : ℕ). L m ⊎ Among k f m)
  joined_seated =
      record {
        named = λ b q hb hq. used_or b q hq
            (λ o. rw (g.number_other b q hb o) (inl (s.named b q hb o)))
            (λ e x hx eq. rw (e, eq) (inr (x, hx, sym (g.number_here_lem x hx))));
        place = λ b q hb hq. used_or b q hq
            (λ o. rw (g.number_other b q hb o) (g.place_other _ (s.named b q hb o) ∙ s.place b q hb o))
            (λ e x hx eq. rw (e, eq, g.number_here_lem x hx) (g.place_here x hx));
        seat = λ m l. ⊎_elim (λ (o : L m). old m o) (λ (t : Among k f m). rw (← t.2) (new t.0 t.1)) l;
      }
    where
      grows : (b : ℕ) → count_of w b ≤ count_of u b
      grows b = ⊎_elim (λ (e : b ≡ a). rw e (omega (arith, g.count_here))) (λ e. omega (arith, g.count_other b e)) (same_or_not b a)

      old : (m : ℕ) → L m → Seat d u j m
      old m l =
          let t = s.seat m l in
          let p = g.place_other m l in
          let ea : archetype_at j m ≡ archetype_at i m = ap (λ (x : Place). x.archetype) p in
          let er : index_at j m ≡ index_at i m = ap (λ (x : Place). x.index.0) p in
          record {
            archetype_in = rw ea t.archetype_in;
            row_in = rw (ea, er) (omega (arith, t.row_in, grows (archetype_at i m)));
            holds = rw (ea, er) (g.number_other (archetype_at i m) (index_at i m) t.archetype_in t.row_in ∙ t.holds);
          }

      new : (x : ℕ) → x < k → Seat d u j (f x)
      new x hx =
          let p = g.place_here x hx in
          record {
            archetype_in = rw (archetype_is j (f x) a (count_of w a + x) p) h;
            row_in = rw (archetype_is j (f x) a (count_of w a + x) p, row_is j (f x) a (count_of w a + x) p, g.count_here) (omega arith);
            holds = rw (archetype_is j (f x) a (count_of w a + x) p, row_is j (f x) a (count_of w a + x) p) (g.number_here_lem x hx);
          }
