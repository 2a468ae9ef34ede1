-- What the cells of a row hold once its bytes were copied over, or moved to, another row.
-- Assumes nothing.
use Prim.Native.Nat.{ℕ, zero, suc, ◌+◌, ◌*◌, ◌≤◌, ◌<◌, zero-le, suc-le-suc}
use mathlib.Core.List.{List, [], ◌∷◌, ◌++◌, append_assoc, append-nil}
use mathlib.Core.Logic.{inl, inr, ⊎_elim}
use mathlib.Core.Path.{◌≡◌, refl, sym, ap₂, ◌∙◌}
use native.Mathlib.Nat.{le_of_suc-le-suc, not-suc-le-zero}
use native.Mathlib.Omega.{arith}
use lib.ListN.{length, get_or, take, drop, length-append, take-append-drop, drop_of_length-le}
use lib.Seq.{take_all, drop-drop}
use Rattle.cells.specs.Cell.{cell, put, written, part_of, copied}
use Rattle.cells.specs.Line.{line_of, cell_of, next_of, past_of, cell_at, width, run_line, row_bytes, carried, transferred}
use Rattle.cells.specs.declared.Line.{Line}
use Rattle.cells.proofs.Laws.{Apart, length_cell, length_put, take_put, written_fits, written_apart, cell_written_lem, length_written, part_fits, part_short, cell_copied, copied_apart, length_copied}

-- Where its columns and cells are.
pub past_line : (ns : List ℕ) (l : Line) → past_of l ns ≡ line_of (l.start + l.rows * width ns) l.rows l.row
unfolding past_of width
past_line [] l = λ i. line_of (at_once i) l.rows l.row
  where
    at_once : l.start ≡ l.start + l.rows * 0
    at_once = omega arith
past_line (n ∷ ns) l = past_line ns (next_of l n) ∙ λ i. line_of (one_more i) l.rows l.row
  where
    one_more : l.start + l.rows * n + l.rows * width ns ≡ l.start + l.rows * (n + width ns)
    one_more = omega arith

pub cell_past : (l : Line) (ns : List ℕ) (j : ℕ) → cell_at l ns j ≡ cell_of (past_of l (take j ns)) (get_or ns j 0)
unfolding cell_at
cell_past l ns j = refl

pub cell_at_lem : (l : Line) (ns : List ℕ) (j : ℕ) → cell_at l ns j ≡ l.start + l.rows * width (take j ns) + l.row * get_or ns j 0
unfolding cell_at
cell_at_lem l ns j = rw (past_line (take j ns) l)

-- its cells lie within a buffer
pub record Within (len : ℕ) (l : Line) (ns : List ℕ) : Type 0 where
  pub each : (j : ℕ) → j < length ns → cell_at l ns j + get_or ns j 0 ≤ len

-- no two of its cells overlap
pub record Parted (l : Line) (ns : List ℕ) : Type 0 where
  pub each : (i j : ℕ) → i < j → j < length ns → Apart (cell_at l ns i) (get_or ns i 0) (cell_at l ns j) (get_or ns j 0)

-- a cell of the source is not overlapped by the target's up to that column
pub record Ahead (from to : Line) (ns : List ℕ) : Type 0 where
  pub each : (i j : ℕ) → i ≤ j → j < length ns → Apart (cell_at from ns j) (get_or ns j 0) (cell_at to ns i) (get_or ns i 0)

-- the same of the columns after the first
within_next : {len k : ℕ} {l : Line} {n : ℕ} {ns : List ℕ} → k ≡ len → Within len l (n ∷ ns) → Within k (next_of l n) ns
unfolding cell_at past_of
within_next e w = record { each = λ j h. rw e (w.each (suc j) (suc-le-suc h)) }

parted_next : {l : Line} {n : ℕ} {ns : List ℕ} → Parted l (n ∷ ns) → Parted (next_of l n) ns
unfolding cell_at past_of
parted_next p = record { each = λ i j k h. p.each (suc i) (suc j) (suc-le-suc k) (suc-le-suc h) }

ahead_next : {l m : Line} {n : ℕ} {ns : List ℕ} → Ahead l m (n ∷ ns) → Ahead (next_of l n) (next_of m n) ns
unfolding cell_at past_of
ahead_next a = record { each = λ i j k h. a.each (suc i) (suc j) (suc-le-suc k) (suc-le-suc h) }

-- A carry: the length stays, and a cell that overlaps none of the target's is as it was.
pub length_carried : (ns b : List ℕ) (from to : Line) → length (carried b from to ns) ≡ length b
unfolding carried
length_carried [] b from to = refl
length_carried (n ∷ ns) b from to = length_carried ns (copied b (cell_of from n) (cell_of to n) n) (next_of from n) (next_of to n) ∙ length_copied b (cell_of from n) (cell_of to n) n

pub carried_apart : (ns b : List ℕ) (from to : Line) (o m : ℕ) → ((j : ℕ) → j < length ns → Apart o m (cell_at to ns j) (get_or ns j 0))
    → cell (carried b from to ns) o m ≡ cell b o m
unfolding carried cell_at past_of
carried_apart [] b from to o m d = refl
carried_apart (n ∷ ns) b from to o m d =
    carried_apart ns (copied b (cell_of from n) (cell_of to n) n) (next_of from n) (next_of to n) o m (λ j h. d (suc j) (suc-le-suc h))
    ∙ copied_apart b (cell_of from n) (cell_of to n) n o m (d 0 (suc-le-suc zero-le))

-- the target's cells hold what the source's held
pub carried_there : (ns b : List ℕ) (from to : Line) → Within (length b) from ns → Within (length b) to ns → Ahead from to ns → Parted to ns
    → (j : ℕ) → j < length ns → cell (carried b from to ns) (cell_at to ns j) (get_or ns j 0) ≡ cell b (cell_at from ns j) (get_or ns j 0)
unfolding carried cell_at past_of
carried_there [] b from to v w a p j h = absurd (not-suc-le-zero h)
carried_there (n ∷ ns) b from to v w a p zero h =
    carried_apart ns (copied b (cell_of from n) (cell_of to n) n) (next_of from n) (next_of to n) (cell_of to n) n
    (λ j k. p.each 0 (suc j) (suc-le-suc zero-le) (suc-le-suc k))
    ∙ cell_copied b (cell_of from n) (cell_of to n) n (record { source = v.each 0 h; target = w.each 0 h; apart = a.each 0 0 zero-le h })
carried_there (n ∷ ns) b from to v w a p (suc j) h =
    let e = length_copied b (cell_of from n) (cell_of to n) n in
    carried_there ns (copied b (cell_of from n) (cell_of to n) n) (next_of from n) (next_of to n)
    (within_next e v) (within_next e w) (ahead_next a) (parted_next p) j (le_of_suc-le-suc h)
    ∙ copied_apart b (cell_of from n) (cell_of to n) n (cell_at (next_of from n) ns j) (get_or ns j 0) (a.each 0 (suc j) zero-le h)

-- A transfer: the same of the buffer that is written.
pub length_transferred : (ns s b : List ℕ) (from to : Line) → length (transferred s from b to ns) ≡ length b
unfolding transferred
length_transferred [] s b from to = refl
length_transferred (n ∷ ns) s b from to =
    length_transferred ns s (written b (cell_of to n) (part_of s (cell_of from n) n)) (next_of from n) (next_of to n)
    ∙ length_written b (cell_of to n) (part_of s (cell_of from n) n)

-- a cell apart from a cell is apart from a part of its size or less
apart_short : (o m at n k : ℕ) → k ≤ n → Apart o m at n → Apart o m at k
apart_short o m at n k h = ⊎_elim (λ (p : o + m ≤ at). inl p) (λ (p : at + n ≤ o). inr (omega arith))

pub transferred_apart : (ns s b : List ℕ) (from to : Line) (o m : ℕ) → ((j : ℕ) → j < length ns → Apart o m (cell_at to ns j) (get_or ns j 0))
    → cell (transferred s from b to ns) o m ≡ cell b o m
unfolding transferred cell_at past_of
transferred_apart [] s b from to o m d = refl
transferred_apart (n ∷ ns) s b from to o m d =
    let v : List ℕ = part_of s (cell_of from n) n in
    transferred_apart ns s (written b (cell_of to n) v) (next_of from n) (next_of to n) o m (λ j h. d (suc j) (suc-le-suc h))
    ∙ written_apart b (cell_of to n) v o m (apart_short o m (cell_of to n) n (length v) (part_short s (cell_of from n) n) (d 0 (suc-le-suc zero-le)))

pub transferred_there : (ns s b : List ℕ) (from to : Line) → Within (length s) from ns → Within (length b) to ns → Parted to ns
    → (j : ℕ) → j < length ns → cell (transferred s from b to ns) (cell_at to ns j) (get_or ns j 0) ≡ cell s (cell_at from ns j) (get_or ns j 0)
unfolding transferred cell_at past_of
transferred_there [] s b from to v w p j h = absurd (not-suc-le-zero h)
transferred_there (n ∷ ns) s b from to v w p zero h =
    let e = part_fits s (cell_of from n) n (v.each 0 h) in
    transferred_apart ns s (written b (cell_of to n) (part_of s (cell_of from n) n)) (next_of from n) (next_of to n) (cell_of to n) n
    (λ j k. p.each 0 (suc j) (suc-le-suc zero-le) (suc-le-suc k))
    ∙ rw e (cell_written_lem b (cell_of to n) (cell s (cell_of from n) n) n (length_cell s (cell_of from n) n (v.each 0 h)) (w.each 0 h))
transferred_there (n ∷ ns) s b from to v w p (suc j) h =
    transferred_there ns s (written b (cell_of to n) (part_of s (cell_of from n) n)) (next_of from n) (next_of to n)
    (within_next refl v) (within_next (length_written b (cell_of to n) (part_of s (cell_of from n) n)) w) (parted_next p) j (le_of_suc-le-suc h)

-- two rows whose cells hold the same hold the same bytes
pub same_row : (ns b c : List ℕ) (l m : Line) → ((j : ℕ) → j < length ns → cell b (cell_at l ns j) (get_or ns j 0) ≡ cell c (cell_at m ns j) (get_or ns j 0))
    → row_bytes b l ns ≡ row_bytes c m ns
unfolding row_bytes cell_at past_of
same_row [] b c l m e = refl
same_row (n ∷ ns) b c l m e =
    ap₂ (λ (x y : List ℕ). x ++ y) (e 0 (suc-le-suc zero-le)) (same_row ns b c (next_of l n) (next_of m n) (λ j h. e (suc j) (suc-le-suc h)))

-- a row's bytes are as many as it is wide
pub length_row : (ns b : List ℕ) (l : Line) → Within (length b) l ns → length (row_bytes b l ns) ≡ width ns
unfolding row_bytes width cell_at past_of
length_row [] b l w = refl
length_row (n ∷ ns) b l w =
    let e = length_cell b (cell_of l n) n (w.each 0 (suc-le-suc zero-le)) in
    let f = length_row ns b (next_of l n) (within_next refl w) in
    rw (length-append, e, f)

-- A row moved to a run of its width: the run is the row's bytes.
run_from : (ns s out : List ℕ) (from : Line) (k : ℕ) → Within (length s) from ns → length out ≡ k + width ns
    → transferred s from out (line_of k 1 0) ns ≡ take k out ++ row_bytes s from ns
unfolding transferred row_bytes width cell_at past_of
run_from [] s out from k v e = sym (append-nil (take k out) ∙ take_all k out (omega arith))
run_from (n ∷ ns) s out from k v e =
    let x : List ℕ = cell s (cell_of from n) n in
    let w = v.each 0 (suc-le-suc zero-le) in
    let l : length x ≡ n = length_cell s (cell_of from n) n w in
    let fits : k + length x ≤ length out = omega arith in
    let here : k + 0 * n ≡ k = omega arith in
    let after : k + 1 * n ≡ k + length x = omega arith in
    rw (here, after, part_fits s (cell_of from n) n w, written_fits out k x fits)
    (run_from ns s (put out k x) (next_of from n) (k + length x) (within_next refl v) (omega (arith, length_put out k x fits))
    ∙ rw (take_put out k x fits) (append_assoc (take k out) x (row_bytes s (next_of from n) ns)))

pub to_run : (ns s out : List ℕ) (from : Line) → Within (length s) from ns → length out ≡ width ns → transferred s from out run_line ns ≡ row_bytes s from ns
to_run ns s out from v e = run_from ns s out from 0 v (omega arith)

-- and a run's bytes are the run
run_row : (ns s : List ℕ) (k : ℕ) → length s ≡ k + width ns → row_bytes s (line_of k 1 0) ns ≡ drop k s
unfolding row_bytes width cell
run_row [] s k e = sym (drop_of_length-le s {i = k} (omega arith))
run_row (n ∷ ns) s k e =
    let here : k + 0 * n ≡ k = omega arith in
    let after : k + 1 * n ≡ k + n = omega arith in
    rw (here, after, run_row ns s (k + n) (omega arith), ← drop-drop n k s) (take-append-drop n (drop k s))

pub of_run : (ns s : List ℕ) → length s ≡ width ns → row_bytes s run_line ns ≡ s
of_run ns s e = run_row ns s 0 (omega arith)
