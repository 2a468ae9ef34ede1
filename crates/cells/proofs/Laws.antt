-- The laws of cells: what was put is read back, what lies apart is as it was, and what the four calls are where they fit.
-- Assumes nothing.
use Prim.Native.Nat.{ℕ, ◌+◌, ◌-◌, ◌≤◌, ◌<◌}
use mathlib.Core.Bool.{Bool, true, false, cond, ◌&&◌, ◌||◌, or-true, false≢true}
use mathlib.Core.List.{List, [], ◌++◌, append_assoc, append-nil}
use mathlib.Core.Logic.{◌⊎◌, inl, inr, ⊎_elim}
use mathlib.Core.Path.{◌≡◌, refl, sym, ap, ◌∙◌}
use native.Mathlib.Omega.{arith}
use borrow.Author.Tests.{le-leb, lt-leb, leb-true}
use lib.Dec.{leb}
use lib.ListN.{length, get_or, take, drop, length-append, length-take, length-drop, drop_of_length-le}
use lib.Seq.{length-take-le, take_at, drop_at, take-append-le, take-take, take-add, drop-drop, get_or-take, get_or-drop, paste-zero}
use Rattle.cells.specs.Cell.{cell, put, fits, copies, Copies, written, part_of, copied}

-- the n bytes at `at` and the m at o have none in common
abbrev pub Apart : ℕ → ℕ → ℕ → ℕ → Type 0
Apart o m at n = (o + m ≤ at) ⊎ (at + n ≤ o)

pub length_cell : (b : List ℕ) (at n : ℕ) → at + n ≤ length b → length (cell b at n) ≡ n
unfolding cell
length_cell b at n h = simp (length-take, length-drop) (omega arith)

-- a cell as a range of the code lends it
pub cell_lent : (b : List ℕ) (at n : ℕ) → take (at + n - at) (drop at b) ≡ cell b at n
unfolding cell
cell_lent b at n = let e : at + n - at ≡ n = omega arith in rw e

-- a byte of a cell
pub get_d_cell : (b : List ℕ) (at n i : ℕ) → i < n → get_or (cell b at n) i 0 ≡ get_or b (at + i) 0
unfolding cell
get_d_cell b at n i h = rw (get_or-take n (drop at b) i 0 h) (get_or-drop at b i 0)

-- the same, from what stands before its end
from_front : (b : List ℕ) (at n : ℕ) → at ≤ length b → cell b at n ≡ drop at (take (at + n) b)
unfolding cell
from_front b at n h = sym (ap (drop at) (take-add at n b) ∙ drop_at (take at b) (take n (drop at b)) at (length-take-le at b h))

module _ (b : List ℕ) (at : ℕ) (vs : List ℕ) (within : at + length vs ≤ length b) where
  pub length_put : length (put b at vs) ≡ length b
  unfolding put
  length_put = simp (length-append, length-drop, length-take) (omega arith)

  -- what was put is read back
  pub cell_put : (n : ℕ) → length vs ≡ n → cell (put b at vs) at n ≡ vs
  unfolding cell put
  cell_put n e =
      ap (λ (l : List ℕ). take n (drop at l)) (append_assoc (take at b) vs (drop (at + length vs) b))
      ∙ ap (take n) (drop_at (take at b) (vs ++ drop (at + length vs) b) at (length-take-le at b (omega arith)))
      ∙ take_at vs (drop (at + length vs) b) n e

  -- a cell before it, or after it, is as it was
  pub cell_put_before : (o n : ℕ) → o + n ≤ at → cell (put b at vs) o n ≡ cell b o n
  unfolding put
  cell_put_before o n h =
      let g : length (take at b) ≡ at = length-take-le at b (omega arith) in
      from_front (put b at vs) o n (omega (arith, length_put))
      ∙ ap (drop o)
      (take-append-le (o + n) (take at b ++ vs) (drop (at + length vs) b) (omega (arith, length-append (take at b) vs))
      ∙ take-append-le (o + n) (take at b) vs (omega arith) ∙ take-take (o + n) at b h)
      ∙ sym (from_front b o n (omega arith))

  -- the bytes after it
  pub drop_put : drop (at + length vs) (put b at vs) ≡ drop (at + length vs) b
  unfolding put
  drop_put = drop_at (take at b ++ vs) (drop (at + length vs) b) (at + length vs) (simp (length-append, length-take) (omega arith))

  pub cell_put_after : (o n : ℕ) → at + length vs ≤ o → cell (put b at vs) o n ≡ cell b o n
  unfolding cell
  cell_put_after o n h =
      let e : at + length vs + (o - (at + length vs)) ≡ o = omega arith in
      rw (← e, ← drop-drop (o - (at + length vs)) (at + length vs) (put b at vs), drop_put, drop-drop (o - (at + length vs)) (at + length vs) b)

  -- the bytes up to its end
  pub take_put : take (at + length vs) (put b at vs) ≡ take at b ++ vs
  unfolding put
  take_put = take_at (take at b ++ vs) (drop (at + length vs) b) (at + length vs) (simp (length-append, length-take) (omega arith))

  -- a cell that does not overlap it
  pub cell_put_apart : (o n : ℕ) → Apart o n at (length vs) → cell (put b at vs) o n ≡ cell b o n
  cell_put_apart o n = ⊎_elim (cell_put_before o n) (cell_put_after o n)

-- nothing put changes nothing, and a whole put leaves only itself
pub put_none : (b : List ℕ) (at : ℕ) → put b at [] ≡ b
unfolding put
put_none b at = sym (paste-zero b at [])

pub put_whole : (b vs : List ℕ) → length vs ≡ length b → put b 0 vs ≡ vs
unfolding put
put_whole b vs e = rw (drop_of_length-le b {i = 0 + length vs} (omega arith)) (append-nil vs)

-- put over the same place twice: the second stays
pub put_put : (b : List ℕ) (at : ℕ) (us vs : List ℕ) → at + length vs ≤ length b → length us ≡ length vs → put (put b at us) at vs ≡ put b at vs
unfolding put
put_put b at us vs h e =
    let k : at + length us ≤ length b = omega arith in
    let g : length (take at b) ≡ at = length-take-le at b (omega arith) in
    let f : take at (put b at us) ≡ take at b = ap (take at) (append_assoc (take at b) us (drop (at + length us) b)) ∙ take_at (take at b) (us ++ drop (at + length us) b) at g in
    rw (f, ← e, drop_put b at us k)

-- the room past `at`, compared
same : (s t : Bool) → (s ≡ true → t ≡ true) → (t ≡ true → s ≡ true) → s ≡ t
same true t f g = sym (f refl)
same false true f g = g refl
same false false f g = refl

pub room : (end at n : ℕ) → at ≤ end → leb n (end - at) ≡ fits end at n
room end at n h =
    same (leb n (end - at)) (leb (at + n) end)
    (λ e. le-leb (at + n) end (omega (arith, leb-true n (end - at) e)))
    (λ e. le-leb n (end - at) (omega (arith, leb-true (at + n) end e)))

-- by cases on a test
cases : {x y : List ℕ} (P : List ℕ → Type 0) (t : Bool) → (t ≡ true → P x) → P y → P (cond t x y)
cases P true f g = f refl
cases P false f g = g

-- A write.
module _ (b : List ℕ) (at : ℕ) (vs : List ℕ) where
  pub written_fits : at + length vs ≤ length b → written b at vs ≡ put b at vs
  unfolding written
  written_fits h = simp (le-leb _ _ h)

  pub written_past : length b < at + length vs → written b at vs ≡ b
  unfolding written
  written_past h = simp (lt-leb _ _ h)

  pub length_written : length (written b at vs) ≡ length b
  unfolding written
  length_written = cases (λ l. length l ≡ length b) (fits (length b) at (length vs)) (λ e. length_put b at vs (leb-true _ _ e)) refl

  pub cell_written_lem : (n : ℕ) → length vs ≡ n → at + n ≤ length b → cell (written b at vs) at n ≡ vs
  cell_written_lem n e h = let k : at + length vs ≤ length b = omega arith in rw (written_fits k) (cell_put b at vs k n e)

  -- a cell that does not overlap it is as it was
  pub written_apart : (o n : ℕ) → Apart o n at (length vs) → cell (written b at vs) o n ≡ cell b o n
  unfolding written
  written_apart o n d = cases (λ l. cell l o n ≡ cell b o n) (fits (length b) at (length vs)) (λ e. cell_put_apart b at vs (leb-true _ _ e) o n d) refl

-- A part, and a read.
module _ (b : List ℕ) (at : ℕ) where
  pub part_fits : (n : ℕ) → at + n ≤ length b → part_of b at n ≡ cell b at n
  unfolding part_of
  part_fits n h = simp (le-leb _ _ h)

  pub part_slice : (n : ℕ) → at + n ≤ length b → take (at + n - at) (drop at b) ≡ part_of b at n
  part_slice n h = cell_lent b at n ∙ sym (part_fits n h)

  pub part_past : (n : ℕ) → length b < at + n → part_of b at n ≡ []
  unfolding part_of
  part_past n h = simp (lt-leb _ _ h)

  pub part_short : (n : ℕ) → length (part_of b at n) ≤ n
  unfolding part_of
  part_short n = cases (λ l. length l ≤ n) (fits (length b) at n) (λ e. rw (length_cell b at n (leb-true _ _ e)) (omega arith)) (omega arith)

-- A copy: the test of its two runs is that they lie so.
both : (s t : Bool) → (s && t) ≡ true → (s ≡ true) × (t ≡ true)
both true t h = (refl, h)
both false t h = absurd (false≢true h)

either : (s t : Bool) → (s || t) ≡ true → (s ≡ true) ⊎ (t ≡ true)
either true t h = inl refl
either false t h = inr h

module _ (len from to n : ℕ) where
  pub copies_told : copies len from to n ≡ true → Copies len from to n
  unfolding copies
  copies_told h =
      let p = both _ _ h in
      let q = both _ _ p.0 in
      record {
        source = leb-true _ _ q.0;
        target = leb-true _ _ q.1;
        apart = ⊎_elim (λ e. inl (leb-true _ _ e)) (λ e. inr (leb-true _ _ e)) (either _ _ p.1);
      }

  pub copies_holds : Copies len from to n → copies len from to n ≡ true
  unfolding copies
  copies_holds c =
      simp (le-leb _ _ c.source, le-leb _ _ c.target)
      (⊎_elim (λ (h : from + n ≤ to). simp (le-leb _ _ h)) (λ (h : to + n ≤ from). simp (le-leb _ _ h, or-true)) c.apart)

  -- the lower run ends before the higher starts, and that ends in the buffer
  pub upwards : from < to → copies len from to n ≡ (fits to from n && fits len to n)
  upwards h =
      same (copies len from to n) (fits to from n && fits len to n)
      (λ e. let c = copies_told e in
      ⊎_elim (λ (k : from + n ≤ to). simp (le-leb _ _ k, le-leb _ _ c.target))
      (λ (k : to + n ≤ from). simp (le-leb (from + n) to (omega arith), le-leb _ _ c.target)) c.apart)
      (λ e. let p = both _ _ e in
      let k : from + n ≤ to = leb-true _ _ p.0 in
      let m : to + n ≤ len = leb-true _ _ p.1 in
      copies_holds (record { source = omega arith; target = m; apart = inl k }))

  pub downwards : to ≤ from → copies len from to n ≡ (fits from to n && fits len from n)
  downwards h =
      same (copies len from to n) (fits from to n && fits len from n)
      (λ e. let c = copies_told e in
      ⊎_elim (λ (k : from + n ≤ to). simp (le-leb (to + n) from (omega arith), le-leb _ _ c.source))
      (λ (k : to + n ≤ from). simp (le-leb _ _ k, le-leb _ _ c.source)) c.apart)
      (λ e. let p = both _ _ e in
      let k : to + n ≤ from = leb-true _ _ p.0 in
      let m : from + n ≤ len = leb-true _ _ p.1 in
      copies_holds (record { source = m; target = omega arith; apart = inr k }))

module _ (b : List ℕ) (from to n : ℕ) where
  pub copied_fits : Copies (length b) from to n → copied b from to n ≡ put b to (cell b from n)
  unfolding copied
  copied_fits c = simp (copies_holds _ _ _ _ c)

  pub copied_past : copies (length b) from to n ≡ false → copied b from to n ≡ b
  unfolding copied
  copied_past e = simp e

  pub length_copied : length (copied b from to n) ≡ length b
  unfolding copied
  length_copied =
      cases (λ l. length l ≡ length b) (copies (length b) from to n)
      (λ e. let c = copies_told _ _ _ _ e in length_put b to (cell b from n) (rw (length_cell b from n c.source) c.target)) refl

  -- the target holds what the source held
  pub cell_copied : Copies (length b) from to n → cell (copied b from to n) to n ≡ cell b from n
  cell_copied c =
      let e = length_cell b from n c.source in
      rw (copied_fits c) (cell_put b to (cell b from n) (rw e c.target) n e)

  -- a cell that does not overlap the target is as it was
  pub copied_apart : (o m : ℕ) → Apart o m to n → cell (copied b from to n) o m ≡ cell b o m
  unfolding copied
  copied_apart o m d =
      cases (λ l. cell l o m ≡ cell b o m) (copies (length b) from to n)
      (λ e. let c = copies_told _ _ _ _ e in
      let g = length_cell b from n c.source in
      cell_put_apart b to (cell b from n) (rw g c.target) o m (rw g d)) refl

-- a cell copied over itself is as it was
pub copied_self : (b : List ℕ) (at n : ℕ) → copied b at at n ≡ b
unfolding copied
copied_self b at n =
    cases (λ l. l ≡ b) (copies (length b) at at n)
    (λ e. let z : n ≡ 0 = ⊎_elim (λ (h : at + n ≤ at). omega arith) (λ (h : at + n ≤ at). omega arith) (copies_told _ _ _ _ e).apart in
    rw z (unfold cell in put_none b at)) refl
