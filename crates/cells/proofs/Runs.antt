-- Runs of bytes in column order: rows in two parts, a run in a buffer that is longer, and what a run holds for each column.
-- Assumes nothing.
use Prim.Native.Nat.{ℕ, zero, suc, ◌+◌, ◌*◌, ◌≤◌, ◌<◌, zero-le, suc-le-suc}
use mathlib.Core.List.{List, [], ◌∷◌, ◌++◌, append_assoc}
use mathlib.Core.Path.{◌≡◌, refl, sym, ap, ◌∙◌}
use native.Mathlib.Nat.{le_of_suc-le-suc, not-suc-le-zero}
use native.Mathlib.Omega.{arith}
use lib.ListN.{length, get_or, take, drop, length-append, length-drop}
use lib.Seq.{take-append-le, drop-append-le, drop-append-add, take_at, drop-drop}
use Rattle.cells.specs.Cell.{cell, put, part_of, written}
use Rattle.cells.specs.Line.{line_of, cell_of, next_of, past_of, cell_at, width, run_line, row_bytes, transferred}
use Rattle.cells.specs.declared.Line.{Line}
use Rattle.cells.proofs.Laws.{length_cell, length_put, take_put, drop_put, put_none, written_fits, part_fits}
use Rattle.cells.proofs.Rows.{Within, length_row}

-- Columns in two parts.
pub width_append : (xs ys : List ℕ) → width (xs ++ ys) ≡ width xs + width ys
unfolding width
width_append [] ys = omega arith
width_append (x ∷ xs) ys = omega (arith, width_append xs ys)

pub past_append : (xs ys : List ℕ) (l : Line) → past_of l (xs ++ ys) ≡ past_of (past_of l xs) ys
unfolding past_of
past_append [] ys l = refl
past_append (x ∷ xs) ys l = past_append xs ys (next_of l x)

pub row_append : (xs ys b : List ℕ) (l : Line) → row_bytes b l (xs ++ ys) ≡ row_bytes b l xs ++ row_bytes b (past_of l xs) ys
unfolding row_bytes past_of
row_append [] ys b l = refl
row_append (x ∷ xs) ys b l =
    ap (λ (z : List ℕ). cell b (cell_of l x) x ++ z) (row_append xs ys b (next_of l x))
    ∙ sym (append_assoc (cell b (cell_of l x) x) (row_bytes b (next_of l x) xs) (row_bytes b (past_of (next_of l x) xs) ys))

within_rest : {len : ℕ} {l : Line} {n : ℕ} {ns : List ℕ} → Within len l (n ∷ ns) → Within len (next_of l n) ns
unfolding cell_at past_of
within_rest w = record { each = λ j h. w.each (suc j) (suc-le-suc h) }

within_one : {len : ℕ} {l : Line} {n : ℕ} {ns : List ℕ} → Within len l (n ∷ ns) → cell_of l n + n ≤ len
unfolding cell_at past_of
within_one w = w.each 0 (suc-le-suc zero-le)

pub within_before : (xs ys : List ℕ) (len : ℕ) (l : Line) → Within len l (xs ++ ys) → Within len l xs
unfolding cell_at past_of
within_before [] ys len l w = record { each = λ j h. absurd (not-suc-le-zero h) }
within_before (x ∷ xs) ys len l w = record { each = by (within_before xs ys len (next_of l x) (within_rest w)) }
  where
    by : Within len (next_of l x) xs → (j : ℕ) → j < length (x ∷ xs) → cell_at l (x ∷ xs) j + get_or (x ∷ xs) j 0 ≤ len
    by v zero h = within_one w
    by v (suc j) h = v.each j (le_of_suc-le-suc h)

pub within_after : (xs ys : List ℕ) (len : ℕ) (l : Line) → Within len l (xs ++ ys) → Within len (past_of l xs) ys
unfolding past_of
within_after [] ys len l w = w
within_after (x ∷ xs) ys len l w = within_after xs ys len (next_of l x) (within_rest w)

-- A row moved to a run in a buffer that may be longer.
put_is : (b : List ℕ) (at : ℕ) (vs : List ℕ) → put b at vs ≡ take at b ++ vs ++ drop (at + length vs) b
unfolding put
put_is b at vs = refl

put_twice : (out : List ℕ) (k : ℕ) (xs ys : List ℕ) → k + length xs + length ys ≤ length out → put (put out k xs) (k + length xs) ys ≡ put out k (xs ++ ys)
put_twice out k xs ys h =
    let fits : k + length xs ≤ length out = omega arith in
    let rest : drop (k + length xs + length ys) (put out k xs) ≡ drop (k + length xs + length ys) out =
    sym (drop-drop (length ys) (k + length xs) (put out k xs)) ∙ ap (drop (length ys)) (drop_put out k xs fits) ∙ drop-drop (length ys) (k + length xs) out in
    let ends : k + length xs + length ys ≡ k + length (xs ++ ys) = omega (arith, length-append xs ys) in
    put_is (put out k xs) (k + length xs) ys
    ∙ rw (take_put out k xs fits, rest, ends, append_assoc (take k out) xs ys) (sym (put_is out k (xs ++ ys)))

pub run_put : (ns s out : List ℕ) (from : Line) (k : ℕ) → Within (length s) from ns → k + width ns ≤ length out
    → transferred s from out (line_of k 1 0) ns ≡ put out k (row_bytes s from ns)
unfolding transferred row_bytes width
run_put [] s out from k v e = sym (put_none out k)
run_put (n ∷ ns) s out from k v e =
    let x : List ℕ = cell s (cell_of from n) n in
    let w = within_one v in
    let l : length x ≡ n = length_cell s (cell_of from n) n w in
    let fits : k + length x ≤ length out = omega arith in
    let here : k + 0 * n ≡ k = omega arith in
    let after : k + 1 * n ≡ k + length x = omega arith in
    let r : length (row_bytes s (next_of from n) ns) ≡ width ns = length_row ns s (next_of from n) (within_rest v) in
    rw (here, after, part_fits s (cell_of from n) n w, written_fits out k x fits)
    (run_put ns s (put out k x) (next_of from n) (k + length x) (within_rest v) (omega (arith, length_put out k x fits))
    ∙ put_twice out k x (row_bytes s (next_of from n) ns) (omega arith))

-- Only the start of a run is read.
part_same : (xs ys : List ℕ) (at n : ℕ) → at + n ≤ length xs → part_of (xs ++ ys) at n ≡ part_of xs at n
unfolding cell
part_same xs ys at n h =
    let l : n ≤ length (drop at xs) = omega (arith, length-drop at xs) in
    part_fits (xs ++ ys) at n (omega (arith, length-append xs ys))
    ∙ (ap (take n) (drop-append-le at xs ys (omega arith)) ∙ take-append-le n (drop at xs) ys l) ∙ sym (part_fits xs at n h)

from_start : (ns xs ys b : List ℕ) (to : Line) (k : ℕ) → k + width ns ≤ length xs → transferred (xs ++ ys) (line_of k 1 0) b to ns ≡ transferred xs (line_of k 1 0) b to ns
unfolding transferred width
from_start [] xs ys b to k h = refl
from_start (n ∷ ns) xs ys b to k h =
    let here : k + 0 * n ≡ k = omega arith in
    let after : k + 1 * n ≡ k + n = omega arith in
    rw (here, after, part_same xs ys k n (omega arith)) (from_start ns xs ys (written b (cell_of to n) (part_of xs k n)) (next_of to n) (k + n) (omega arith))

pub run_start_lem : (ns xs ys b : List ℕ) (to : Line) → width ns ≤ length xs → transferred (xs ++ ys) run_line b to ns ≡ transferred xs run_line b to ns
run_start_lem ns xs ys b to h = from_start ns xs ys b to 0 (omega arith)

-- What a run of a row's bytes holds for a column.
pub run_cell : (ns b : List ℕ) (l : Line) (j : ℕ) → Within (length b) l ns → j < length ns
    → cell (row_bytes b l ns) (width (take j ns)) (get_or ns j 0) ≡ cell b (cell_at l ns j) (get_or ns j 0)
unfolding row_bytes width cell_at past_of cell
run_cell [] b l j w h = absurd (not-suc-le-zero h)
run_cell (n ∷ ns) b l zero w h = take_at (cell b (cell_of l n) n) (row_bytes b (next_of l n) ns) n (length_cell b (cell_of l n) n (within_one w))
run_cell (n ∷ ns) b l (suc j) w h =
    let x : List ℕ = cell b (cell_of l n) n in
    let e : length x ≡ n = length_cell b (cell_of l n) n (within_one w) in
    let f : length x + width (take j ns) ≡ n + width (take j ns) = omega arith in
    ap (take (get_or ns j 0)) (ap (λ (z : ℕ). drop z (x ++ row_bytes b (next_of l n) ns)) (sym f) ∙ drop-append-add x (row_bytes b (next_of l n) ns) (width (take j ns)))
    ∙ run_cell ns b (next_of l n) j (within_rest w) (le_of_suc-le-suc h)
