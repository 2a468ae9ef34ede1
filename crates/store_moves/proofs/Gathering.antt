-- A row's bytes gathered in a buffer, with a value between two parts of its columns: what the buffer then begins with.
-- Assumes nothing.
use Prim.Native.Nat.{ℕ, ◌+◌, ◌*◌, ◌-◌, ◌≤◌, ◌<◌}
use native.Mathlib.Omega.{arith}
use native.Mathlib.Numerals.{add-one}
use mathlib.Core.List.{List, ◌++◌, append_assoc}
use mathlib.Core.Path.{◌≡◌, sym, ap, ◌∙◌}
use lib.ListN.{length, get_or, take, drop, take-append-drop}
use lib.Seq.{take_at, drop_at, drop-drop}
use Rattle.cells.specs.Cell.{put, written}
use Rattle.cells.specs.Line.{line_of, past_of, next_of, width, run_line, row_bytes, line_told, last_place, transferred}
use Rattle.cells.specs.declared.Line.{Line}
use Rattle.cells.proofs.Laws.{written_fits, length_put, take_put, drop_put}
use Rattle.cells.proofs.Lines.{told_fits}
use Rattle.cells.proofs.Rows.{past_line, length_row, Within}
use Rattle.cells.proofs.Blocks.{width_next}
use Rattle.cells.proofs.Runs.{row_append, within_before, within_after, run_put}
use Rattle.store_moves.specs.Lists.{put_in, taken_out}
use Rattle.store_moves.specs.Steps.{after_of, joined}
use Rattle.store_moves.proofs.Splicing.{put_in_lem, taken_out_lem}

-- a line that 64 bits tell is itself
pub line_fits : (l : Line) → l.start ≤ last_place → line_told l ≡ l
line_fits l h = λ i. line_of (sym (told_fits l.start h) i) l.rows l.row

-- where a run's columns past these begin
past_run : (ns : List ℕ) → past_of run_line ns ≡ line_of (width ns) 1 0
past_run ns = past_line ns run_line ∙ λ i. line_of (one i) 1 0
  where
    one : 0 + 1 * width ns ≡ width ns
    one = omega arith

gap_at : (ns : List ℕ) → width ns ≤ last_place → line_told (past_of run_line ns) ≡ line_of (width ns) 1 0
gap_at ns h = ap (λ (l : Line). line_told l) (past_run ns) ∙ line_fits (line_of (width ns) 1 0) h

after_at : (ns : List ℕ) (size : ℕ) → width ns + size ≤ last_place → after_of ns size ≡ line_of (width ns + size) 1 0
after_at ns size h =
    ap (λ (l : Line). line_told (next_of l size)) (gap_at ns (omega arith))
    ∙ line_fits (line_of (width ns + 1 * size) 1 0) (omega arith) ∙ λ i. line_of (one i) 1 0
  where
    one : width ns + 1 * size ≡ width ns + size
    one = omega arith

-- what is put, and what follows it
put_is : (b : List ℕ) (at : ℕ) (vs : List ℕ) → at + length vs ≤ length b → put b at vs ≡ (take at b ++ vs) ++ drop (at + length vs) b
put_is b at vs h = sym (take-append-drop (at + length vs) (put b at vs)) ∙ rw (take_put b at vs h, drop_put b at vs h)

drop_past : (b : List ℕ) (at : ℕ) (vs : List ℕ) (k : ℕ) → at + length vs ≤ length b → at + length vs ≤ k → drop k (put b at vs) ≡ drop k b
drop_past b at vs k h l =
    let e : at + length vs + (k - (at + length vs)) ≡ k = omega arith in
    rw (← e, ← drop-drop (k - (at + length vs)) (at + length vs) (put b at vs), drop_put b at vs h, drop-drop (k - (at + length vs)) (at + length vs) b)

-- three runs put one after another begin the buffer
module _ (out xs ys zs : List ℕ) (h : length xs + length ys + length zs ≤ length out) where
  abbrev one : List ℕ
  one = put out 0 xs

  abbrev two : List ℕ
  two = put one (length xs) ys

  one_long : length one ≡ length out
  one_long = length_put out 0 xs (omega arith)

  two_long : length two ≡ length out
  two_long = length_put one (length xs) ys (omega (arith, one_long)) ∙ one_long

  first : take (length xs) one ≡ xs
  first = let e : 0 + length xs ≡ length xs = omega arith in rw e at (take_put out 0 xs (omega arith))

  pub three : put two (length xs + length ys) zs ≡ (xs ++ (ys ++ zs)) ++ drop (length xs + length ys + length zs) out
  three =
      put_is two (length xs + length ys) zs (omega (arith, two_long))
      ∙ rw (
        take_put one (length xs) ys (omega (arith, one_long)),
        first,
        append_assoc xs ys zs,
        drop_past one (length xs) ys (length xs + length ys + length zs) (omega (arith, one_long)) (omega arith),
        drop_past out 0 xs (length xs + length ys + length zs) (omega arith) (omega arith),
      )

module _ (out b : List ℕ) (row : Line) (before : List ℕ) (size : ℕ) (value : List ℕ) (rest : Line) (after : List ℕ)
    (v : Within (length b) row before) (w : Within (length b) rest after) (l : length value ≡ size)
    (fits : width before + size + width after ≤ length out) (small : length out ≤ last_place) where
  abbrev xs : List ℕ
  xs = row_bytes b row before

  abbrev zs : List ℕ
  zs = row_bytes b rest after

  xs_long : length xs ≡ width before
  xs_long = length_row before b row v

  zs_long : length zs ≡ width after
  zs_long = length_row after b rest w

  pub joins_run : joined out b row before size value rest after ≡ (xs ++ (value ++ zs)) ++ drop (width before + size + width after) out
  unfolding joined
  joins_run =
      let ends : length xs + length value + length zs ≡ width before + size + width after = omega (arith, xs_long, zs_long) in
      let gap : (line_told (past_of run_line before)).start ≡ length xs = ap (λ (m : Line). m.start) (gap_at before (omega arith)) ∙ sym xs_long in
      let next : after_of before size ≡ line_of (length xs + length value) 1 0 = rw (xs_long, l) (after_at before size (omega arith)) in
      ap (λ (x : List ℕ). transferred b rest (written x (line_told (past_of run_line before)).start value) (after_of before size) after) (run_put before b out row 0 v (omega arith))
      ∙ ap (λ (k : ℕ). transferred b rest (written (put out 0 xs) k value) (after_of before size) after) gap
      ∙ ap (λ (x : List ℕ). transferred b rest x (after_of before size) after)
      (written_fits (put out 0 xs) (length xs) value (omega (arith, length_put out 0 xs (omega (arith, xs_long)), xs_long)))
      ∙ ap (λ (m : Line). transferred b rest (put (put out 0 xs) (length xs) value) m after) next
      ∙ run_put after b (put (put out 0 xs) (length xs) value) rest (length xs + length value) w
      (omega (arith, two_long out xs value zs (omega (arith, xs_long, zs_long)), xs_long))
      ∙ three out xs value zs (omega (arith, xs_long, zs_long)) ∙ ap (λ (k : ℕ). (xs ++ (value ++ zs)) ++ drop k out) ends

-- The bytes of a row in two parts, with a value between them, and without a column.
module _ (b : List ℕ) (line : Line) (ns : List ℕ) (w : Within (length b) line ns) where
  abbrev front : ℕ → List ℕ
  front j = row_bytes b line (take j ns)

  abbrev back : ℕ → List ℕ
  back j = row_bytes b (past_of line (take j ns)) (drop j ns)

  pub front_within : (j : ℕ) → Within (length b) line (take j ns)
  front_within j = within_before (take j ns) (drop j ns) (length b) line (rw (take-append-drop j ns) w)

  pub back_within : (j : ℕ) → Within (length b) (past_of line (take j ns)) (drop j ns)
  back_within j = within_after (take j ns) (drop j ns) (length b) line (rw (take-append-drop j ns) w)

  front_long : (j : ℕ) → length (front j) ≡ width (take j ns)
  front_long j = length_row (take j ns) b line (front_within j)

  two_parts : (j : ℕ) → row_bytes b line ns ≡ front j ++ back j
  two_parts j = ap (λ (z : List ℕ). row_bytes b line z) (sym (take-append-drop j ns)) ∙ row_append (take j ns) (drop j ns) b line

  pub run_with_is : (j : ℕ) (value : List ℕ) → put_in (width (take j ns)) value (row_bytes b line ns) ≡ front j ++ (value ++ back j)
  run_with_is j value =
      put_in_lem (width (take j ns)) value (row_bytes b line ns)
      ∙ rw (two_parts j, take_at (front j) (back j) (width (take j ns)) (front_long j), drop_at (front j) (back j) (width (take j ns)) (front_long j))

  pub run_without_is : (j : ℕ) → j < length ns → taken_out (width (take j ns)) (get_or ns j 0) (row_bytes b line ns) ≡ front j ++ back (j + 1)
  run_without_is j h =
      let e : width (take j ns) + get_or ns j 0 ≡ width (take (j + 1) ns) = rw (add-one j) (sym (width_next ns j h)) in
      let f : take (width (take j ns)) (row_bytes b line ns) ≡ front j = rw (two_parts j) (take_at (front j) (back j) (width (take j ns)) (front_long j)) in
      let g : drop (width (take j ns) + get_or ns j 0) (row_bytes b line ns) ≡ back (j + 1) =
      rw (e, two_parts (j + 1)) (drop_at (front (j + 1)) (back (j + 1)) (width (take (j + 1) ns)) (front_long (j + 1))) in
      taken_out_lem (width (take j ns)) (get_or ns j 0) (row_bytes b line ns) ∙ rw (f, g)
