-- The loops over a row's cells: what is left of the columns decides, and a place that 64 bits do not have is in no buffer.
-- Assumes nothing.
use Prim.Native.Nat.{ℕ, suc, ◌+◌, ◌*◌, ◌≤◌, ◌<◌}
use mathlib.Core.Bool.{Bool, true, false}
use mathlib.Core.List.{List, [], ◌∷◌}
use mathlib.Core.Path.{◌≡◌, refl, sym, ap, ◌∙◌}
use native.Mathlib.Numerals.{add-one}
use native.Mathlib.Omega.{arith}
use borrow.Author.Tests.{leb-true, leb-false}
use lib.ListN.{length, get_or, drop, drop_of_length-le}
use lib.Seq.{drop-cons}
use Rattle.cells.specs.Cell.{fits, copies, written, part_of, copied}
use Rattle.cells.specs.Line.{line_of, cell_of, next_of, past_of, carried, transferred, last_place, told, line_told}
use Rattle.cells.specs.declared.Line.{Line}
use Rattle.cells.proofs.Laws.{written_past, length_written, part_past, copies_told, copied_past, length_copied}

-- two places that no buffer tells apart, and two lines
abbrev pub Same : ℕ → ℕ → Type 0
Same x y = told x ≡ told y

pub record Alike (l m : Line) : Type 0 where
  pub start : Same l.start m.start
  pub rows : l.rows ≡ m.rows
  pub row : l.row ≡ m.row

same_told : (x : ℕ) → Same x (told x)
unfolding told
same_told x = omega arith

same_sum : (x y n : ℕ) → Same x y → Same (x + n) (y + n)
unfolding told
same_sum x y n e = omega arith

pub same_within : (x y n len : ℕ) → Same x y → len < last_place → x + n ≤ len → x ≡ y
unfolding told
same_within x y n len e h k = omega arith

pub told_fits : (x : ℕ) → x ≤ last_place → x ≡ told x
unfolding told
told_fits x h = omega arith

pub next_fits : (l m : Line) → m ≡ line_told l → m.start ≤ last_place
unfolding told
next_fits l m e = rw e (omega arith)

pub told_alike : (l : Line) → Alike l (line_told l)
told_alike l = record { start = same_told l.start; rows = refl; row = refl }

same_line : {l m : Line} → Alike l m → line_told l ≡ line_told m
same_line a = λ i. line_of (a.start i) (a.rows i) (a.row i)

alike_cell : {l m : Line} (n : ℕ) → Alike l m → Same (cell_of l n) (cell_of m n)
alike_cell {l} {m} n a = rw a.row (same_sum l.start m.start (m.row * n) a.start)

pub cell_told : (l : Line) (n : ℕ) → told (cell_of (line_told l) n) ≡ told (cell_of l n)
cell_told l n = sym (alike_cell n (told_alike l))

alike_next : {l m : Line} (n : ℕ) → Alike l m → Alike (next_of l n) (next_of m n)
alike_next {l} {m} n a = record { start = rw a.rows (same_sum l.start m.start (m.rows * n) a.start); rows = a.rows; row = a.row }

-- by two tests
tests : {A : Type 0} (s t : Bool) → (s ≡ true → A) → (t ≡ true → A) → (s ≡ false → t ≡ false → A) → A
tests true t f g h = f refl
tests false true f g h = g refl
tests false false f g h = h refl refl

-- a part, a write and a copy at places that no buffer tells apart
module _ (b : List ℕ) (small : length b < last_place) where
  same_part : (x y n : ℕ) → Same x y → part_of b x n ≡ part_of b y n
  same_part x y n e =
      tests (fits (length b) x n) (fits (length b) y n)
      (λ t. let p = same_within x y n (length b) e small (leb-true _ _ t) in rw p)
      (λ t. let p = same_within y x n (length b) (sym e) small (leb-true _ _ t) in rw p)
      (λ s t. part_past b x n (leb-false _ _ s) ∙ sym (part_past b y n (leb-false _ _ t)))

  same_written : (x y : ℕ) (vs : List ℕ) → Same x y → written b x vs ≡ written b y vs
  same_written x y vs e =
      tests (fits (length b) x (length vs)) (fits (length b) y (length vs))
      (λ t. let p = same_within x y (length vs) (length b) e small (leb-true _ _ t) in rw p)
      (λ t. let p = same_within y x (length vs) (length b) (sym e) small (leb-true _ _ t) in rw p)
      (λ s t. written_past b x vs (leb-false _ _ s) ∙ sym (written_past b y vs (leb-false _ _ t)))

  same_copied : (x x' y y' n : ℕ) → Same x x' → Same y y' → copied b x y n ≡ copied b x' y' n
  same_copied x x' y y' n e f =
      tests (copies (length b) x y n) (copies (length b) x' y' n)
      (λ t. let c = copies_told _ _ _ _ t in
      let p = same_within x x' n (length b) e small c.source in
      let q = same_within y y' n (length b) f small c.target in
      rw (p, q))
      (λ t. let c = copies_told _ _ _ _ t in
      let p = same_within x' x n (length b) (sym e) small c.source in
      let q = same_within y' y n (length b) (sym f) small c.target in
      rw (p, q))
      (λ s t. copied_past b x y n s ∙ sym (copied_past b x' y' n t))

-- a row past some columns, copied over another, moved to another buffer
alike_past : (ns : List ℕ) (l m : Line) → Alike l m → Alike (past_of l ns) (past_of m ns)
unfolding past_of
alike_past [] l m a = a
alike_past (n ∷ ns) l m a = alike_past ns (next_of l n) (next_of m n) (alike_next n a)

alike_carried : (ns b : List ℕ) (l l' m m' : Line) → length b < last_place → Alike l l' → Alike m m' → carried b l m ns ≡ carried b l' m' ns
unfolding carried
alike_carried [] b l l' m m' h a c = refl
alike_carried (n ∷ ns) b l l' m m' h a c =
    let e = same_copied b h (cell_of l n) (cell_of l' n) (cell_of m n) (cell_of m' n) n (alike_cell n a) (alike_cell n c) in
    rw e (alike_carried ns (copied b (cell_of l' n) (cell_of m' n) n) (next_of l n) (next_of l' n) (next_of m n) (next_of m' n)
    (rw length_copied h) (alike_next n a) (alike_next n c))

alike_transferred : (ns s b : List ℕ) (l l' m m' : Line) → length s < last_place → length b < last_place → Alike l l' → Alike m m'
    → transferred s l b m ns ≡ transferred s l' b m' ns
unfolding transferred
alike_transferred [] s b l l' m m' k h a c = refl
alike_transferred (n ∷ ns) s b l l' m m' k h a c =
    let e = same_part s k (cell_of l n) (cell_of l' n) n (alike_cell n a) in
    let f = same_written b h (cell_of m n) (cell_of m' n) (part_of s (cell_of l' n) n) (alike_cell n c) in
    rw (e, f) (alike_transferred ns s (written b (cell_of m' n) (part_of s (cell_of l' n) n)) (next_of l n) (next_of l' n) (next_of m n) (next_of m' n)
    k (rw length_written h) (alike_next n a) (alike_next n c))

-- a turn of each loop
module _ (ns : List ℕ) (j : ℕ) (more : j < length ns) where
  pub past_more : (l l' : Line) → l' ≡ line_told (next_of l (get_or ns j 0)) → line_told (past_of l (drop j ns)) ≡ line_told (past_of l' (drop (j + 1) ns))
  unfolding past_of
  past_more l l' e =
      rw (e, add-one j, drop-cons ns j 0 more)
      (same_line (alike_past (drop (suc j) ns) (next_of l (get_or ns j 0)) (line_told (next_of l (get_or ns j 0))) (told_alike (next_of l (get_or ns j 0)))))

  module _ (l l' m m' : Line) (x y : ℕ) (source : x ≡ told (cell_of l (get_or ns j 0))) (target : y ≡ told (cell_of m (get_or ns j 0)))
      (next : l' ≡ line_told (next_of l (get_or ns j 0))) (next' : m' ≡ line_told (next_of m (get_or ns j 0))) where
    pub carry_more : (b b' : List ℕ) → length b < last_place → b' ≡ copied b x y (get_or ns j 0) → carried b l m (drop j ns) ≡ carried b' l' m' (drop (j + 1) ns)
    unfolding carried
    carry_more b b' h e =
        let n : ℕ = get_or ns j 0 in
        rw (e, source, target, next, next', add-one j, drop-cons ns j 0 more)
        (ap (λ (c : List ℕ). carried c (next_of l n) (next_of m n) (drop (suc j) ns))
        (same_copied b h (cell_of l n) (told (cell_of l n)) (cell_of m n) (told (cell_of m n)) n (same_told (cell_of l n)) (same_told (cell_of m n)))
        ∙ alike_carried (drop (suc j) ns) (copied b (told (cell_of l n)) (told (cell_of m n)) n) (next_of l n) (line_told (next_of l n)) (next_of m n) (line_told (next_of m n))
        (rw length_copied h) (told_alike (next_of l n)) (told_alike (next_of m n)))

    pub transfer_more : (s b b' : List ℕ) → length s < last_place → length b < last_place → b' ≡ written b y (part_of s x (get_or ns j 0))
        → transferred s l b m (drop j ns) ≡ transferred s l' b' m' (drop (j + 1) ns)
    unfolding transferred
    transfer_more s b b' k h e =
        let n : ℕ = get_or ns j 0 in
        rw (e, source, target, next, next', add-one j, drop-cons ns j 0 more)
        (ap (λ (c : List ℕ). transferred s (next_of l n) c (next_of m n) (drop (suc j) ns))
        (ap (written b (cell_of m n)) (same_part s k (cell_of l n) (told (cell_of l n)) n (same_told (cell_of l n)))
        ∙ same_written b h (cell_of m n) (told (cell_of m n)) (part_of s (told (cell_of l n)) n) (same_told (cell_of m n)))
        ∙ alike_transferred (drop (suc j) ns) s (written b (told (cell_of m n)) (part_of s (told (cell_of l n)) n)) (next_of l n) (line_told (next_of l n)) (next_of m n) (line_told (next_of m n))
        k (rw length_written h) (told_alike (next_of l n)) (told_alike (next_of m n)))

-- where no column is left
module _ (ns : List ℕ) (j : ℕ) (none : length ns ≤ j) where
  pub past_all : (l : Line) → l.start ≤ last_place → l ≡ line_told (past_of l (drop j ns))
  unfolding past_of
  past_all l h = rw (drop_of_length-le ns none) (λ i. line_of (told_fits l.start h i) l.rows l.row)

  pub carry_none : (b : List ℕ) (l m : Line) → carried b l m (drop j ns) ≡ b
  unfolding carried
  carry_none b l m = rw (drop_of_length-le ns none)

  pub transfer_none : (s b : List ℕ) (l m : Line) → transferred s l b m (drop j ns) ≡ b
  unfolding transferred
  transfer_none s b l m = rw (drop_of_length-le ns none)
