-- Shared components keep their bytes: what each cell of the new row holds.
-- Assumes nothing.
use Prim.Native.Nat.{ℕ, suc, ◌+◌, ◌-◌, ◌*◌, ◌≤◌, ◌<◌}
use native.Mathlib.Omega.{arith}
use native.Mathlib.Nat.{eq-or-lt_of_le, mul-add}
use mathlib.Core.List.{List, [], ◌∷◌, ◌++◌}
use mathlib.Core.Logic.{inl, inr, ⊎_elim}
use mathlib.Core.Path.{◌≡◌, refl, sym, ap, ◌∙◌}
use lib.ListN.{length, get_or, take, drop, replicate, length-drop}
use lib.Seq.{take-append-le, drop-append-le, drop-append-add, take-append-add, take_at, length-take-le, take-take, take-add, get_or-take, get_or-drop}
use Rattle.decl.specs.Decl.{Decl, rows_of, width_of, types_of, sizes_of, type_of, size_of}
use Rattle.decl.specs.Places.{base_of, cell_start}
use Rattle.decl.specs.Kept.{Declared}
use Rattle.decl.proofs.Lists.{below_or_not, one_place}
use Rattle.decl.proofs.Keeping.{types_length, sizes_length}
use Rattle.decl.proofs.Placing.{base_grows}
use Rattle.cells.specs.Cell.{cell}
use Rattle.cells.specs.Line.{line_of, cell_at, past_of, width, run_line, row_bytes, transferred}
use Rattle.cells.specs.declared.Line.{Line}
use Rattle.cells.proofs.Laws.{Apart, cell_lent}
use Rattle.cells.proofs.Rows.{Within, cell_at_lem, past_line, length_row, transferred_there}
use Rattle.cells.proofs.Blocks.{width_all, width_take, within_block, parted_block, block_starts, block_ends}
use Rattle.cells.proofs.Runs.{width_append, run_cell}
use Rattle.row_step.specs.Tables.{Rows, tables_of, count_of, line_in, removed}
use Rattle.row_step.proofs.Held.{appended_bytes, removed_outside}
use Rattle.column_entry.proofs.Widths.{line_cell, block_end, block_in_lem}
use Rattle.column_entry.specs.Entry.{block_in}
use Rattle.store_steps.specs.Seats.{filled, seated_rows}
use Rattle.store_steps.proofs.Laws.{seated_rows_lem}
use Rattle.store_tables.specs.Store.{Store}
use Rattle.store_tables.specs.Rows.{archetype_of, row_of, seated}
use Rattle.store_tables.proofs.Vacating.{vacated_rows}
use Rattle.store_moves.specs.Lists.{put_in, taken_out}
use Rattle.store_moves.specs.Target.{types_before}
use Rattle.store_moves.specs.Moves.{row_run, run_start, run_with, run_without, row_moved, moved_to}
use Rattle.store_moves.specs.Kept.{Moving}
use Rattle.store_moves.proofs.Splicing.{put_in_lem, taken_out_lem, in_before, in_after, out_before, out_after}
use Rattle.store_moves.proofs.Gathering.{front_within, back_within, run_with_is, run_without_is}
use Rattle.store_moves.proofs.Targets.{before_in, wider, narrower, type_added, with_differs, with_before, with_after, with_sizes, without_differs, without_before, without_after, without_sizes}
use Rattle.store_moves.proofs.Moving.{width_one, row_within, run_long, run_less, same_count}

-- cells of two lists, one after the other
cell_is : (b : List ℕ) (at n : ℕ) → cell b at n ≡ take n (drop at b)
cell_is b at n = let e : at + n - at ≡ n = omega arith in sym (cell_lent b at n) ∙ rw e

pub cell_before : (xs ys : List ℕ) (at n : ℕ) → at + n ≤ length xs → cell (xs ++ ys) at n ≡ cell xs at n
cell_before xs ys at n h =
    cell_is (xs ++ ys) at n ∙ ap (take n) (drop-append-le at xs ys (omega arith))
    ∙ take-append-le n (drop at xs) ys (omega (arith, length-drop at xs)) ∙ sym (cell_is xs at n)

pub cell_after : (xs ys : List ℕ) (at n : ℕ) → cell (xs ++ ys) (length xs + at) n ≡ cell ys at n
cell_after xs ys at n = cell_is (xs ++ ys) (length xs + at) n ∙ ap (take n) (drop-append-add xs ys at) ∙ sym (cell_is ys at n)

pub cell_all : (xs ys : List ℕ) (n : ℕ) → length xs ≡ n → cell (xs ++ ys) 0 n ≡ xs
cell_all xs ys n e = cell_is (xs ++ ys) 0 n ∙ take_at xs ys n e

-- where a row's cells are, by the declaration
pub start_is : (d : Decl) (a j r : ℕ) → j ≤ length (sizes_of d a) → cell_start d a j r ≡ cell_at (line_of (base_of d a) (rows_of d a) r) (sizes_of d a) j
start_is d a j r h = sym (line_cell d a r j h)

run_at : (ns : List ℕ) (j : ℕ) → cell_at run_line ns j ≡ width (take j ns)
run_at ns j = cell_at_lem run_line ns j ∙ omega arith

-- The cells of a row's bytes in two parts.
module _ (b : List ℕ) (line : Line) (ns : List ℕ) (w : Within (length b) line ns) (p : ℕ) (l : p ≤ length ns) where
  abbrev front : List ℕ
  front = row_bytes b line (take p ns)

  abbrev back : List ℕ
  back = row_bytes b (past_of line (take p ns)) (drop p ns)

  front_long : length front ≡ width (take p ns)
  front_long = length_row (take p ns) b line (front_within b line ns w p)

  front_cell : (k : ℕ) → k < p → cell front (width (take k ns)) (get_or ns k 0) ≡ cell b (cell_at line ns k) (get_or ns k 0)
  front_cell k h =
      let t : take k (take p ns) ≡ take k ns = take-take k p ns (omega arith) in
      let g : get_or (take p ns) k 0 ≡ get_or ns k 0 = get_or-take p ns k 0 h in
      let c : cell_at line (take p ns) k ≡ cell_at line ns k = cell_at_lem line (take p ns) k ∙ rw (t, g) (sym (cell_at_lem line ns k)) in
      rw (t, g, c) at (run_cell (take p ns) b line k (front_within b line ns w p) (omega (arith, length-take-le p ns l)))

  front_in : (k : ℕ) → k < p → width (take k ns) + get_or ns k 0 ≤ length front
  front_in k h = omega (arith, front_long, width_take ns k p h (omega arith))

  next_width : (i : ℕ) → width (take (p + i) ns) ≡ width (take p ns) + width (take i (drop p ns))
  next_width i = ap width (take-add p i ns) ∙ width_append (take p ns) (take i (drop p ns))

  back_cell : (i : ℕ) → p + i < length ns → cell back (width (take i (drop p ns))) (get_or ns (p + i) 0) ≡ cell b (cell_at line ns (p + i)) (get_or ns (p + i) 0)
  back_cell i h =
      let g : get_or (drop p ns) i 0 ≡ get_or ns (p + i) 0 = get_or-drop p ns i 0 in
      let past : past_of line (take p ns) ≡ line_of (line.start + line.rows * width (take p ns)) line.rows line.row = past_line (take p ns) line in
      let c : cell_at (past_of line (take p ns)) (drop p ns) i ≡ cell_at line ns (p + i) =
      ap (λ (m : Line). cell_at m (drop p ns) i) past ∙ cell_at_lem (line_of (line.start + line.rows * width (take p ns)) line.rows line.row) (drop p ns) i
      ∙ rw g (omega (arith, mul-add line.rows (width (take p ns)) (width (take i (drop p ns))), ap (λ (z : ℕ). line.rows * z) (next_width i))) ∙ sym (cell_at_lem line ns (p + i)) in
      rw (g, c) at (run_cell (drop p ns) b (past_of line (take p ns)) i (back_within b line ns w p) (omega (arith, length-drop p ns)))

-- What a row's bytes hold with a value put in: the components before it, the value, those after it.
module _ (b : List ℕ) (line : Line) (ns : List ℕ) (w : Within (length b) line ns) (p : ℕ) (l : p ≤ length ns) (value : List ℕ) (size : ℕ) (e : length value ≡ size) where
  abbrev run : List ℕ
  run = put_in (width (take p ns)) value (row_bytes b line ns)

  abbrev sizes : List ℕ
  sizes = put_in p (size ∷ []) ns

  run_is : run ≡ front b line ns w p l ++ (value ++ back b line ns w p l)
  run_is = run_with_is b line ns w p value

  long : length (take p ns) ≡ p
  long = length-take-le p ns l

  same_start : (k : ℕ) → k ≤ p → take k sizes ≡ take k ns
  same_start k h =
      ap (take k) (put_in_lem p (size ∷ []) ns) ∙ take-append-le k (take p ns) (size ∷ drop p ns) (omega (arith, long)) ∙ take-take k p ns h

  later_start : (i : ℕ) → width (take (p + suc i) sizes) ≡ width (take p ns) + (size + width (take i (drop p ns)))
  later_start i =
      let q : length (take p ns) + suc i ≡ p + suc i = omega (arith, long) in
      let r : take (p + suc i) sizes ≡ take p ns ++ (size ∷ take i (drop p ns)) =
      ap (take (p + suc i)) (put_in_lem p (size ∷ []) ns) ∙ ap (λ (z : ℕ). take z (take p ns ++ (size ∷ drop p ns))) (sym q) ∙ take-append-add (take p ns) (size ∷ drop p ns) (suc i) in
      ap width r ∙ width_append (take p ns) (size ∷ take i (drop p ns))
      ∙ ap (λ (z : ℕ). width (take p ns) + z) (width_append (size ∷ []) (take i (drop p ns)) ∙ ap (λ (z : ℕ). z + width (take i (drop p ns))) (width_one size))

  pub with_cell_before : (k : ℕ) → k < p → cell run (width (take k sizes)) (get_or ns k 0) ≡ cell b (cell_at line ns k) (get_or ns k 0)
  with_cell_before k h =
      rw (run_is, same_start k (omega arith))
      (cell_before (front b line ns w p l) (value ++ back b line ns w p l) (width (take k ns)) (get_or ns k 0) (front_in b line ns w p l k h) ∙ front_cell b line ns w p l k h)

  pub with_cell_here : cell run (width (take p sizes)) size ≡ value
  with_cell_here =
      let q : length (front b line ns w p l) + 0 ≡ width (take p ns) = omega (arith, front_long b line ns w p l) in
      rw (run_is, same_start p (omega arith), ← q)
      (cell_after (front b line ns w p l) (value ++ back b line ns w p l) 0 size ∙ cell_all value (back b line ns w p l) size e)

  pub with_cell_after : (i : ℕ) → p + i < length ns → cell run (width (take (p + suc i) sizes)) (get_or ns (p + i) 0) ≡ cell b (cell_at line ns (p + i)) (get_or ns (p + i) 0)
  with_cell_after i h =
      let q : length (front b line ns w p l) + (length value + width (take i (drop p ns))) ≡ width (take p ns) + (size + width (take i (drop p ns))) = omega (arith, front_long b line ns w p l) in
      rw (run_is, later_start i, ← q)
      (cell_after (front b line ns w p l) (value ++ back b line ns w p l) (length value + width (take i (drop p ns))) (get_or ns (p + i) 0)
      ∙ cell_after value (back b line ns w p l) (width (take i (drop p ns))) (get_or ns (p + i) 0) ∙ back_cell b line ns w p l i h)

-- And without a column.
module _ (b : List ℕ) (line : Line) (ns : List ℕ) (w : Within (length b) line ns) (j : ℕ) (h : j < length ns) where
  abbrev less : List ℕ
  less = taken_out (width (take j ns)) (get_or ns j 0) (row_bytes b line ns)

  abbrev fewer : List ℕ
  fewer = taken_out j 1 ns

  in_row : j ≤ length ns
  in_row = omega arith

  past_row : j + 1 ≤ length ns
  past_row = omega arith

  less_is : less ≡ front b line ns w j in_row ++ back b line ns w (j + 1) past_row
  less_is = run_without_is b line ns w j h

  same_front : (k : ℕ) → k ≤ j → take k fewer ≡ take k ns
  same_front k l =
      ap (take k) (taken_out_lem j 1 ns) ∙ take-append-le k (take j ns) (drop (j + 1) ns) (omega (arith, length-take-le j ns in_row)) ∙ take-take k j ns l

  later_front : (i : ℕ) → width (take (j + i) fewer) ≡ width (take j ns) + width (take i (drop (j + 1) ns))
  later_front i =
      let q : length (take j ns) + i ≡ j + i = omega (arith, length-take-le j ns in_row) in
      ap width (ap (take (j + i)) (taken_out_lem j 1 ns) ∙ ap (λ (z : ℕ). take z (take j ns ++ drop (j + 1) ns)) (sym q) ∙ take-append-add (take j ns) (drop (j + 1) ns) i)
      ∙ width_append (take j ns) (take i (drop (j + 1) ns))

  pub without_cell_before : (k : ℕ) → k < j → cell less (width (take k fewer)) (get_or ns k 0) ≡ cell b (cell_at line ns k) (get_or ns k 0)
  without_cell_before k l =
      rw (less_is, same_front k (omega arith))
      (cell_before (front b line ns w j in_row) (back b line ns w (j + 1) past_row) (width (take k ns)) (get_or ns k 0) (front_in b line ns w j in_row k l) ∙ front_cell b line ns w j in_row k l)

  pub without_cell_after : (i : ℕ) → j + 1 + i < length ns → cell less (width (take (j + i) fewer)) (get_or ns (j + 1 + i) 0) ≡ cell b (cell_at line ns (j + 1 + i)) (get_or ns (j + 1 + i) 0)
  without_cell_after i l =
      let q : length (front b line ns w j in_row) + width (take i (drop (j + 1) ns)) ≡ width (take j ns) + width (take i (drop (j + 1) ns)) = omega (arith, front_long b line ns w j in_row) in
      rw (less_is, later_front i, ← q)
      (cell_after (front b line ns w j in_row) (back b line ns w (j + 1) past_row) (width (take i (drop (j + 1) ns))) (get_or ns (j + 1 + i) 0) ∙ back_cell b line ns w (j + 1) past_row i l)

-- The cells of the row that the number has in its new archetype hold the run.
module _ (s : Store) (n b : ℕ) (run : List ℕ) (m : Moving s.decl s.rows (archetype_of s n) (row_of s n) b) (other : b ≡ archetype_of s n → ⊥)
    (wide : width (sizes_of s.decl b) ≤ length run) where
  abbrev d : Decl
  d = s.decl

  abbrev a : ℕ
  a = archetype_of s n

  abbrev to : Line
  to = line_in (block_in d b) (count_of s.rows b)

  abbrev taken : Rows
  taken = seated_rows (block_in d b) (sizes_of d b) s.rows b n run

  rows_are : (moved_to s n b run).rows ≡ removed (block_in d a) (sizes_of d a) taken a (row_of s n)
  unfolding moved_to row_moved
  rows_are = vacated_rows (seated s b n run) a (row_of s n)

  taken_bytes : taken.bytes ≡ transferred run run_line s.rows.bytes to (sizes_of d b)
  taken_bytes =
      ap (λ (x : Rows). x.bytes) (seated_rows_lem (block_in d b) (sizes_of d b) s.rows b n run m.row_unused)
      ∙ appended_bytes (block_in d b) (tables_of s.rows.numbers s.rows.counts (filled (block_in d b) (sizes_of d b) s.rows b run)) b n

  bytes_in : base_of d b + rows_of d b * width (sizes_of d b) ≤ length s.rows.bytes
  bytes_in = omega (arith, block_in_lem d b m.there, m.ready.tabled.bytes_long)

  -- the old row's archetype lies elsewhere
  blocks : (k : ℕ) → k < length (sizes_of d b) → Apart (cell_at to (sizes_of d b) k) (size_of d b k) (base_of d a) (rows_of d a * width (sizes_of d a))
  blocks k h =
      let first = block_starts (sizes_of d b) (base_of d b) (rows_of d b) (count_of s.rows b) k in
      let last = block_ends (sizes_of d b) (base_of d b) (rows_of d b) (count_of s.rows b) k m.row_unused h in
      ⊎_elim
      (λ (u : b < a). inl (omega (arith, last, block_before b a u)))
      (λ (u : a ≤ b). ⊎_elim (λ (q : a ≡ b). absurd (other (sym q))) (λ (q : a < b). inr (omega (arith, first, block_before a b q))) (eq-or-lt_of_le u))
      (below_or_not b a)
    where
      block_before : (x y : ℕ) → x < y → base_of d x + rows_of d x * width (sizes_of d x) ≤ base_of d y
      block_before x y h = omega (arith, block_end d x, base_grows d (x + 1) y (omega arith))

  pub new_cell : (k : ℕ) → k < width_of d b → cell (moved_to s n b run).rows.bytes (cell_start d b k (count_of s.rows b)) (size_of d b k) ≡ cell run (width (take k (sizes_of d b))) (size_of d b k)
  new_cell k h =
      let i : k < length (sizes_of d b) = omega (arith, sizes_length d m.ready.tabled.kept.declared.shaped b) in
      let c = same_count s n b run m.row_in (m.ready.counts_in a) m.row_unused other in
      rw (start_is d b k (count_of s.rows b) (omega arith))
      (ap (λ (x : Rows). cell x.bytes (cell_at to (sizes_of d b) k) (size_of d b k)) rows_are
      ∙ removed_outside (block_in d a) (sizes_of d a) taken a (row_of s n) (omega (arith, c, m.row_in)) (omega (arith, c, m.ready.counts_in a)) (cell_at to (sizes_of d b) k) (size_of d b k) (blocks k i)
      ∙ ap (λ (x : List ℕ). cell x (cell_at to (sizes_of d b) k) (size_of d b k)) taken_bytes
      ∙ transferred_there (sizes_of d b) run s.rows.bytes run_line to
      (record { each = λ q u. rw (run_at (sizes_of d b) q) (omega (arith, width_all (sizes_of d b) q u)) })
      (within_block (sizes_of d b) (base_of d b) (rows_of d b) (count_of s.rows b) (length s.rows.bytes) m.row_unused bytes_in)
      (parted_block (sizes_of d b) (base_of d b) (rows_of d b) (count_of s.rows b) m.row_unused) k i
      ∙ ap (λ (x : ℕ). cell run x (size_of d b k)) (run_at (sizes_of d b) k))

-- A row that has moved: each component of a type that both archetypes have keeps its bytes.
module _ (s : Store) (n b : ℕ) (m : Moving s.decl s.rows (archetype_of s n) (row_of s n) b) where
  abbrev dec : Decl
  dec = s.decl

  abbrev old : ℕ
  old = archetype_of s n

  abbrev declares : Declared dec
  declares = m.ready.tabled.kept.declared

  abbrev old_row : Line
  old_row = line_in (block_in dec old) (row_of s n)

  old_within : Within (length s.rows.bytes) old_row (sizes_of dec old)
  old_within = row_within dec s.rows old (row_of s n) b m

  old_sizes : length (sizes_of dec old) ≡ width_of dec old
  old_sizes = sizes_length dec declares.shaped old

  old_types : length (types_of dec old) ≡ width_of dec old
  old_types = types_length dec declares.shaped old

  -- the bytes of column k in the old row
  abbrev held : ℕ → List ℕ
  held k = cell s.rows.bytes (cell_start dec old k (row_of s n)) (size_of dec old k)

  held_is : (k : ℕ) → k < width_of dec old → held k ≡ cell s.rows.bytes (cell_at old_row (sizes_of dec old) k) (size_of dec old k)
  held_is k h = ap (λ (z : ℕ). cell s.rows.bytes z (size_of dec old k)) (start_is dec old k (row_of s n) (omega (arith, old_sizes)))

  -- the same bytes are those of column j in the new row, whose archetype has this size for it
  abbrev Keeps : List ℕ → ℕ → ℕ → Type 0
  Keeps run j k = cell (moved_to s n b run).rows.bytes (cell_start dec b j (count_of s.rows b)) (size_of dec b j) ≡ held k

  module _ (t : ℕ) (value : List ℕ) (e : types_of dec b ≡ put_in (types_before t (types_of dec old)) (t ∷ []) (types_of dec old)) (l : length value ≡ size_of dec b (types_before t (types_of dec old))) where
    abbrev p : ℕ
    p = types_before t (types_of dec old)

    abbrev came : List ℕ
    came = run_with dec s.rows old (row_of s n) t value

    came_is : came ≡ put_in (width (take p (sizes_of dec old))) value (row_bytes s.rows.bytes old_row (sizes_of dec old))
    unfolding run_with run_start row_run
    came_is = refl

    in_types : p ≤ length (types_of dec old)
    in_types = before_in t (types_of dec old)

    in_sizes : p ≤ length (sizes_of dec old)
    in_sizes = omega (arith, in_types, old_types, old_sizes)

    sizes_are : sizes_of dec b ≡ put_in p (size_of dec b p ∷ []) (sizes_of dec old)
    sizes_are = with_sizes dec declares old b m.here m.there t p in_types e

    one_more : width_of dec b ≡ width_of dec old + 1
    one_more = wider dec declares old b m.here m.there t p in_types e

    there : (j : ℕ) → j < width_of dec b → cell (moved_to s n b came).rows.bytes (cell_start dec b j (count_of s.rows b)) (size_of dec b j)
        ≡ cell (put_in (width (take p (sizes_of dec old))) value (row_bytes s.rows.bytes old_row (sizes_of dec old))) (width (take j (put_in p (size_of dec b p ∷ []) (sizes_of dec old)))) (size_of dec b j)
    there j h =
        new_cell s n b came m (with_differs dec declares old b m.here m.there t p in_types e) (omega (arith, run_long dec s.rows old (row_of s n) b m t value e l (replicate 1024 0) refl)) j h
        ∙ ap (λ (x : List ℕ). cell x (width (take j (sizes_of dec b))) (size_of dec b j)) came_is
        ∙ ap (λ (x : List ℕ). cell (put_in (width (take p (sizes_of dec old))) value (row_bytes s.rows.bytes old_row (sizes_of dec old))) (width (take j x)) (size_of dec b j)) sizes_are

    -- the type that was added has the value
    pub with_value : cell (moved_to s n b came).rows.bytes (cell_start dec b p (count_of s.rows b)) (size_of dec b p) ≡ value
    with_value = there p (omega (arith, one_more, in_types, old_types)) ∙ with_cell_here s.rows.bytes old_row (sizes_of dec old) old_within p in_sizes value (size_of dec b p) l

    kept_before : (k : ℕ) → k < p → Keeps came k k
    kept_before k h =
        let z : size_of dec b k ≡ size_of dec old k = ap (λ (x : List ℕ). get_or x k 0) sizes_are ∙ in_before p (size_of dec b p ∷ []) (sizes_of dec old) in_sizes k h in
        there k (omega (arith, one_more, in_types, old_types))
        ∙ rw z (with_cell_before s.rows.bytes old_row (sizes_of dec old) old_within p in_sizes value (size_of dec b p) l k h ∙ sym (held_is k (omega (arith, in_types, old_types))))

    kept_after : (i : ℕ) → p + i < width_of dec old → Keeps came (p + suc i) (p + i)
    kept_after i h =
        let y : p + (1 + i) ≡ p + suc i = omega arith in
        let z : size_of dec b (p + suc i) ≡ size_of dec old (p + i) =
        ap (λ (x : List ℕ). get_or x (p + suc i) 0) sizes_are ∙ rw y at (in_after p (size_of dec b p ∷ []) (sizes_of dec old) in_sizes i) in
        there (p + suc i) (omega (arith, one_more))
        ∙ rw z (with_cell_after s.rows.bytes old_row (sizes_of dec old) old_within p in_sizes value (size_of dec b p) l i (omega (arith, old_sizes)) ∙ sym (held_is (p + i) h))

    -- and each other type that both have keeps its bytes
    pub with_kept : ((i : ℕ) → i < length (types_of dec old) → type_of dec old i ≡ t → ⊥) → (j k : ℕ) → j < width_of dec b → k < width_of dec old → type_of dec b j ≡ type_of dec old k → Keeps came j k
    with_kept new j k h g q =
        ⊎_elim
        (λ (u : j < p).
        let z : j ≡ k = one_place (types_of dec old) (declares.rises old) j k (omega (arith, in_types)) (omega (arith, old_types)) (sym (with_before dec declares old b m.here m.there t p in_types e j u) ∙ q) in
        rw (← z) (kept_before j u))
        (λ (u : p ≤ j). ⊎_elim
        (λ (v : p ≡ j). absurd (new k (omega (arith, old_types)) (sym q ∙ ap (λ (x : ℕ). type_of dec b x) (sym v) ∙ type_added dec declares old b m.here m.there t p in_types e)))
        (λ (v : p < j).
        let y : p + suc (j - 1 - p) ≡ j = omega arith in
        let x : p + (j - 1 - p) ≡ j - 1 = omega arith in
        let w : j - 1 + 1 ≡ j = omega arith in
        let z : j - 1 ≡ k =
        one_place (types_of dec old) (declares.rises old) (j - 1) k (omega (arith, one_more, old_types)) (omega (arith, old_types))
        (sym (rw w at (with_after dec declares old b m.here m.there t p in_types e (j - 1) (omega arith))) ∙ q) in
        rw (← z) (rw (y, x) at (kept_after (j - 1 - p) (omega (arith, one_more)))))
        (eq-or-lt_of_le u))
        (below_or_not j p)

  module _ (i : ℕ) (h : i < width_of dec old) (e : types_of dec b ≡ taken_out i 1 (types_of dec old)) where
    abbrev went : List ℕ
    went = run_without dec s.rows old (row_of s n) i

    went_is : went ≡ taken_out (width (take i (sizes_of dec old))) (size_of dec old i) (row_bytes s.rows.bytes old_row (sizes_of dec old))
    unfolding run_without run_start row_run
    went_is = refl

    held_in : i < length (sizes_of dec old)
    held_in = omega (arith, old_sizes)

    less_sizes : sizes_of dec b ≡ taken_out i 1 (sizes_of dec old)
    less_sizes = without_sizes dec declares old b m.here m.there i h e

    one_less : width_of dec b + 1 ≡ width_of dec old
    one_less = narrower dec declares old b m.here m.there i h e

    here : (j : ℕ) → j < width_of dec b → cell (moved_to s n b went).rows.bytes (cell_start dec b j (count_of s.rows b)) (size_of dec b j)
        ≡ cell (taken_out (width (take i (sizes_of dec old))) (size_of dec old i) (row_bytes s.rows.bytes old_row (sizes_of dec old))) (width (take j (taken_out i 1 (sizes_of dec old)))) (size_of dec b j)
    here j k =
        new_cell s n b went m (without_differs dec declares old b m.here m.there i h e) (omega (arith, run_less dec s.rows old (row_of s n) b m i h e (replicate 1024 0) refl)) j k
        ∙ ap (λ (x : List ℕ). cell x (width (take j (sizes_of dec b))) (size_of dec b j)) went_is
        ∙ ap (λ (x : List ℕ). cell (taken_out (width (take i (sizes_of dec old))) (size_of dec old i) (row_bytes s.rows.bytes old_row (sizes_of dec old))) (width (take j x)) (size_of dec b j)) less_sizes

    stayed_before : (k : ℕ) → k < i → Keeps went k k
    stayed_before k u =
        let z : size_of dec b k ≡ size_of dec old k = ap (λ (x : List ℕ). get_or x k 0) less_sizes ∙ out_before i 1 (sizes_of dec old) (omega (arith, held_in)) k u in
        here k (omega (arith, one_less))
        ∙ rw z (without_cell_before s.rows.bytes old_row (sizes_of dec old) old_within i held_in k u ∙ sym (held_is k (omega arith)))

    stayed_after : (k : ℕ) → i + 1 + k < width_of dec old → Keeps went (i + k) (i + 1 + k)
    stayed_after k u =
        let y : i + k + 1 ≡ i + 1 + k = omega arith in
        let z : size_of dec b (i + k) ≡ size_of dec old (i + 1 + k) =
        ap (λ (x : List ℕ). get_or x (i + k) 0) less_sizes ∙ rw y at (out_after i 1 (sizes_of dec old) (omega (arith, held_in)) (i + k) (omega arith)) in
        here (i + k) (omega (arith, one_less))
        ∙ rw z (without_cell_after s.rows.bytes old_row (sizes_of dec old) old_within i held_in k (omega (arith, old_sizes)) ∙ sym (held_is (i + 1 + k) u))

    -- each type that is left keeps its bytes
    pub without_kept : (j k : ℕ) → j < width_of dec b → k < width_of dec old → type_of dec b j ≡ type_of dec old k → Keeps went j k
    without_kept j k u g q =
        ⊎_elim
        (λ (v : j < i).
        let z : j ≡ k = one_place (types_of dec old) (declares.rises old) j k (omega (arith, old_types)) (omega (arith, old_types)) (sym (without_before dec declares old b m.here m.there i h e j v) ∙ q) in
        rw (← z) (stayed_before j v))
        (λ (v : i ≤ j).
        let y : i + (j - i) ≡ j = omega arith in
        let x : i + 1 + (j - i) ≡ j + 1 = omega arith in
        let z : j + 1 ≡ k =
        one_place (types_of dec old) (declares.rises old) (j + 1) k (omega (arith, one_less, old_types)) (omega (arith, old_types))
        (sym (without_after dec declares old b m.here m.there i h e j v) ∙ q) in
        rw (← z) (rw (y, x) at (stayed_after (j - i) (omega (arith, one_less)))))
        (below_or_not j i)
