-- A row that has moved: what the step left, with the archetypes' parts and the bytes as the code lends them, is what the rule says.
-- Assumes nothing.
use Prim.Native.Nat.{ℕ, ◌+◌, ◌*◌, ◌≤◌, ◌<◌}
use native.Mathlib.Nat.{mul-le-mul_left}
use native.Mathlib.Omega.{arith}
use mathlib.Core.List.{List, [], ◌∷◌, ◌++◌}
use mathlib.Core.Path.{◌≡◌, refl, sym, ap, ◌∙◌}
use lib.ListN.{length, get_or, set, take, drop, length-append, take-append-drop}
use lib.Seq.{get_or-set_other}
use Rattle.id_tables.specs.Ids.{ids_of}
use Rattle.decl.specs.Decl.{Decl, archetypes, rows_of, width_of, first_column, types_of, sizes_of, size_of}
use Rattle.decl.specs.Places.{base_of, span_of}
use Rattle.decl.specs.declared.Span.{Span}
use Rattle.decl.specs.Kept.{Shaped}
use Rattle.decl.proofs.Lists.{sum_in}
use Rattle.decl.proofs.Keeping.{types_length, sizes_length, sizes_end, size_at, columns_all}
use Rattle.decl.proofs.Placing.{width_in, total_in}
use Rattle.cells.specs.Line.{line_of, past_of, width, row_bytes, line_told}
use Rattle.cells.specs.declared.Line.{Line}
use Rattle.cells.proofs.Rows.{past_line, length_row, Within}
use Rattle.cells.proofs.Blocks.{within_block, width_none, width_next}
use Rattle.cells.proofs.Runs.{width_append, run_start_lem}
use Rattle.row_step.specs.declared.Block.{Block}
use Rattle.row_step.specs.Tables.{Rows, tables_of, count_of, line_in, appended}
use Rattle.row_step.proofs.Held.{appended_counts}
use Rattle.column_entry.proofs.Widths.{row_wide, block_in_lem}
use Rattle.column_entry.specs.Entry.{span_in, block_in}
use Rattle.column_entry.proofs.Keeping.{span_kept}
use Rattle.store_steps.specs.Parts.{block_by, part_by}
use Rattle.store_steps.specs.Seats.{Seats, seats_of, seated_rows, vacated_seats, filled}
use Rattle.store_steps.proofs.Laws.{block_by_lem, sizes_by, seated_rows_lem}
use Rattle.store_tables.specs.Store.{Store, store_of}
use Rattle.store_tables.specs.Rows.{archetype_of, row_of, seated}
use Rattle.store_tables.proofs.Places.{vacating}
use Rattle.store_moves.specs.Lists.{put_in, taken_out}
use Rattle.store_moves.specs.Target.{types_before}
use Rattle.store_moves.specs.Moves.{row_run, run_start, run_with, run_without, row_moved, moved_to}
use Rattle.store_moves.specs.Steps.{gathered, moved_seats}
use Rattle.store_moves.specs.Kept.{Moving}
use Rattle.store_moves.proofs.Splicing.{length_put_in}
use Rattle.store_moves.proofs.Gathering.{line_fits, joins_run, front_within, back_within, run_with_is, run_without_is}
use Rattle.store_moves.proofs.Targets.{width_in_out, width_out, before_in, wider, with_sizes, without_sizes}

-- only the start of a run is read
seats_start : (from to : Block) (own sizes : List ℕ) (t : Seats) (a r b n : ℕ) (run more : List ℕ) → count_of t.rows b < to.rows → width sizes ≤ length run
    → moved_seats from own to sizes t a r b n (run ++ more) ≡ moved_seats from own to sizes t a r b n run
unfolding moved_seats
seats_start from to own sizes t a r b n run more h l =
    let e : seated_rows to sizes t.rows b n (run ++ more) ≡ seated_rows to sizes t.rows b n run =
    seated_rows_lem to sizes t.rows b n (run ++ more) h
    ∙ ap (λ (z : List ℕ). appended to (tables_of t.rows.numbers t.rows.counts z) b n) (run_start_lem sizes run more t.rows.bytes (line_in to (count_of t.rows b)) l)
    ∙ sym (seated_rows_lem to sizes t.rows b n run h) in
    rw e

-- the columns before a place are no wider than all
front_in : (ns : List ℕ) (j : ℕ) → width (take j ns) + width (drop j ns) ≡ width ns
front_in ns j = sym (width_append (take j ns) (drop j ns)) ∙ ap width (take-append-drop j ns)

pub width_one : (n : ℕ) → width (n ∷ []) ≡ n
width_one n = omega (arith, width_next (n ∷ []) 0 (omega arith), width_none (n ∷ []))

-- An archetype's columns among all.
module _ (d : Decl) (g : Shaped d) (a : ℕ) (span : Span) (e : span ≡ span_of d a) where
  starts : span.column ≡ first_column d a
  starts = ap (λ (x : Span). x.column) e

  many : span.columns ≡ width_of d a
  many = ap (λ (x : Span). x.columns) e

  pub all_in : span.column + span.columns ≤ length d.sizes
  all_in = omega (arith, starts, many, sizes_end d g a)

  pub all_small : span.column + span.columns ≤ 256
  all_small = omega (arith, all_in, g.sizes_long, columns_all d g.widths_long, sum_in 16 d.widths g.widths_in, g.widths_long, g.few)

module _ (d : Decl) (w : Rows) (a r b : ℕ) (m : Moving d w a r b) where
  abbrev ns : List ℕ
  ns = sizes_of d a

  abbrev line : Line
  line = line_in (block_in d a) r

  row_there : r < rows_of d a
  row_there = omega (arith, m.row_in, m.ready.counts_in a)

  bytes_in : base_of d a + rows_of d a * width ns ≤ length w.bytes
  bytes_in = omega (arith, block_in_lem d a m.here, m.ready.tabled.bytes_long)

  pub row_within : Within (length w.bytes) line ns
  row_within = within_block ns (base_of d a) (rows_of d a) r (length w.bytes) row_there bytes_in

  -- the row past some of its columns, as 64 bits tell it
  rest_told : (j : ℕ) → line_told (past_of line (take j ns)) ≡ past_of line (take j ns)
  rest_told j =
      line_fits (past_of line (take j ns))
      (rw (past_line (take j ns) line)
      (omega (arith, mul-le-mul_left (rows_of d a) (shorter j), block_in_lem d a m.here, total_in d m.ready.tabled.kept.declared)))
    where
      shorter : (j : ℕ) → width (take j ns) ≤ width ns
      shorter j = omega (arith, front_in ns j)

  wide : width (sizes_of d b) ≤ 1024
  wide = omega (arith, width_in d m.ready.tabled.kept.declared b, row_wide d b)

  -- a buffer with the row and a value of type t in it
  module _ (t : ℕ) (value : List ℕ) (e : types_of d b ≡ put_in (types_before t (types_of d a)) (t ∷ []) (types_of d a)) (l : length value ≡ size_of d b (types_before t (types_of d a)))
      (out : List ℕ) (o : length out ≡ 1024) where
    abbrev p : ℕ
    p = types_before t (types_of d a)

    sizes_are : sizes_of d b ≡ put_in p (size_of d b p ∷ []) ns
    sizes_are = with_sizes d m.ready.tabled.kept.declared a b m.here m.there t p (before_in t (types_of d a)) e

    as_wide : width (sizes_of d b) ≡ width ns + size_of d b p
    as_wide = ap width sizes_are ∙ width_in_out p (size_of d b p ∷ []) ns ∙ ap (λ (z : ℕ). width ns + z) (width_one (size_of d b p))

    pub run_long : length (run_with d w a r t value) ≡ width (sizes_of d b)
    unfolding run_with row_run
    run_long = omega (arith, length_put_in (run_start d a p) value (row_bytes w.bytes line ns), length_row ns w.bytes line row_within, as_wide)

    gather_with : gathered out w.bytes line ns p p (size_of d b p) value
        ≡ run_with d w a r t value ++ drop (width (take p ns) + size_of d b p + width (drop p ns)) out
    unfolding gathered run_with row_run run_start
    gather_with =
        rw (rest_told p)
        (joins_run out w.bytes line (take p ns) (size_of d b p) value (past_of line (take p ns)) (drop p ns)
        (front_within w.bytes line ns row_within p) (back_within w.bytes line ns row_within p) l
        (omega (arith, front_in ns p, as_wide, wide)) (omega arith)
        ∙ ap (λ (z : List ℕ). z ++ drop (width (take p ns) + size_of d b p + width (drop p ns)) out) (sym (run_with_is w.bytes line ns row_within p value)))

  -- and one with the row without a column
  module _ (j : ℕ) (h : j < width_of d a) (e : types_of d b ≡ taken_out j 1 (types_of d a)) (out : List ℕ) (o : length out ≡ 1024) where
    columns : length ns ≡ width_of d a
    columns = sizes_length d m.ready.tabled.kept.declared.shaped a

    fewer : width (sizes_of d b) ≡ width (take j ns) + width (drop (j + 1) ns)
    fewer = ap width (without_sizes d m.ready.tabled.kept.declared a b m.here m.there j h e) ∙ width_out j ns

    pub run_less : length (run_without d w a r j) ≡ width (sizes_of d b)
    unfolding run_without row_run run_start
    run_less =
        ap (λ (z : List ℕ). length z) (run_without_is w.bytes line ns row_within j (omega (arith, columns)))
        ∙ length-append (row_bytes w.bytes line (take j ns)) (row_bytes w.bytes (past_of line (take (j + 1) ns)) (drop (j + 1) ns))
        ∙ omega (
          arith,
          fewer,
          length_row (take j ns) w.bytes line (front_within w.bytes line ns row_within j),
          length_row (drop (j + 1) ns) w.bytes (past_of line (take (j + 1) ns)) (back_within w.bytes line ns row_within (j + 1)),
        )

    gather_without : gathered out w.bytes line ns j (j + 1) 0 []
        ≡ run_without d w a r j ++ drop (width (take j ns) + 0 + width (drop (j + 1) ns)) out
    unfolding gathered run_without row_run run_start
    gather_without =
        rw (rest_told (j + 1))
        (joins_run out w.bytes line (take j ns) 0 [] (past_of line (take (j + 1) ns)) (drop (j + 1) ns)
        (front_within w.bytes line ns row_within j) (back_within w.bytes line ns row_within (j + 1)) refl
        (omega (arith, fewer, wide)) (omega arith)
        ∙ ap (λ (z : List ℕ). z ++ drop (width (take j ns) + 0 + width (drop (j + 1) ns)) out) (sym (run_without_is w.bytes line ns row_within j (omega (arith, columns)))))

-- What `move_row` left of the tables, lent the archetypes' spans and the gathered bytes.
module _ (d : Decl) (w : Rows) (a r b : ℕ) (m : Moving d w a r b) (span to : Span) (p : span ≡ span_of d a) (q : to ≡ span_in d b) where
  abbrev shape : Shaped d
  shape = m.ready.tabled.kept.declared.shaped

  to_is : to ≡ span_of d b
  to_is = q ∙ span_kept d b m.ready.tabled.kept (omega (arith, m.there))

  -- columns are few: a value's in the target, and the one past a column
  in_row : (t j : ℕ) → types_of d b ≡ put_in (types_before t (types_of d a)) (t ∷ []) (types_of d a) → j ≡ types_before t (types_of d a) → j < width_of d b
  in_row t j e c =
      let i = before_in t (types_of d a) in
      omega (arith, c, i, types_length d shape a, wider d m.ready.tabled.kept.declared a b m.here m.there t (types_before t (types_of d a)) i e)

  pub column_small : (t j : ℕ) → types_of d b ≡ put_in (types_before t (types_of d a)) (t ∷ []) (types_of d a) → j ≡ types_before t (types_of d a) → to.column + j < 256
  column_small t j e c = omega (arith, in_row t j e c, all_small d shape b to to_is, ap (λ (u : Span). u.columns) to_is)

  pub next_small : (j : ℕ) → j < width_of d a → j + 1 ≤ 256
  next_small j h = omega (arith, all_small d shape a span p, ap (λ (u : Span). u.columns) p)

  module _ (n : ℕ) (archetypes indices : List ℕ) where
    abbrev before : Seats
    before = seats_of archetypes indices w

    abbrev lent : List ℕ → Seats
    lent run = moved_seats (block_by d.rows span a) (part_by d.sizes span) (block_by d.rows to b) (part_by d.sizes to) before a r b n run

    abbrev exact : List ℕ → Seats
    exact run = moved_seats (block_in d a) (sizes_of d a) (block_in d b) (sizes_of d b) before a r b n run

    laid : (run : List ℕ) (seats : Seats) → seats ≡ lent run → seats ≡ exact run
    laid run seats v = rw (block_by_lem d a span p, sizes_by d a span p, block_by_lem d b to to_is, sizes_by d b to to_is) at v

    -- as much of the gathered bytes is read as the row is wide
    settled : (run more : List ℕ) (seats : Seats) → seats ≡ lent (run ++ more) → width (sizes_of d b) ≤ length run → seats ≡ exact run
    settled run more seats v l =
        laid (run ++ more) seats v ∙ seats_start (block_in d a) (block_in d b) (sizes_of d a) (sizes_of d b) before a r b n run more m.row_unused l

    abbrev row : Line
    row = line_of span.base (get_or d.rows a 0) r

    pub took_in : (t : ℕ) (value : List ℕ) (e : types_of d b ≡ put_in (types_before t (types_of d a)) (t ∷ []) (types_of d a)) → length value ≡ size_of d b (types_before t (types_of d a))
        → (j : ℕ) → j ≡ types_before t (types_of d a) → (out : List ℕ) → length out ≡ 1024 → (size : ℕ) → size ≡ get_or d.sizes (to.column + j) 0
        → (run : List ℕ) → run ≡ gathered out w.bytes row (part_by d.sizes span) j j size value
        → (seats : Seats) → seats ≡ lent run → seats ≡ exact (run_with d w a r t value)
    took_in t value e l j c out o size z run g seats v =
        let k : size ≡ size_of d b (types_before t (types_of d a)) =
        z ∙ ap (λ (u : Span). get_or d.sizes (u.column + j) 0) to_is ∙ sym (size_at d b j (in_row t j e c)) ∙ ap (size_of d b) c in
        let i = (rw (sizes_by d a span p, p, k, c) at g) ∙ gather_with d w a r b m t value e l out o in
        settled (run_with d w a r t value) _ seats (v ∙ ap (λ (u : List ℕ). lent u) i) (omega (arith, run_long d w a r b m t value e l out o))

    pub took_out : (j : ℕ) (h : j < width_of d a) (e : types_of d b ≡ taken_out j 1 (types_of d a)) (out : List ℕ) → length out ≡ 1024
        → (run : List ℕ) → run ≡ gathered out w.bytes row (part_by d.sizes span) j (j + 1) 0 []
        → (seats : Seats) → seats ≡ lent run → seats ≡ exact (run_without d w a r j)
    took_out j h e out o run g seats v =
        let i = (rw (sizes_by d a span p, p) at g) ∙ gather_without d w a r b m j h e out o in
        settled (run_without d w a r j) _ seats (v ∙ ap (λ (u : List ℕ). lent u) i) (omega (arith, run_less d w a r b m j h e out o))

-- The store that is left.
module _ (s : Store) (n b : ℕ) (run : List ℕ) (row_in : row_of s n < count_of s.rows (archetype_of s n)) (used : count_of s.rows (archetype_of s n) ≤ rows_of s.decl (archetype_of s n))
    (unused : count_of s.rows b < rows_of s.decl b) (other : b ≡ archetype_of s n → ⊥) where
  abbrev own : ℕ
  own = archetype_of s n

  abbrev taken : Rows
  taken = seated_rows (block_in s.decl b) (sizes_of s.decl b) s.rows b n run

  -- the new row is in another archetype
  pub same_count : count_of taken own ≡ count_of s.rows own
  same_count =
      ap (λ (x : Rows). count_of x own) (seated_rows_lem (block_in s.decl b) (sizes_of s.decl b) s.rows b n run unused)
      ∙ ap (λ (x : List ℕ). get_or x own 0) (appended_counts (block_in s.decl b) (tables_of s.rows.numbers s.rows.counts (filled (block_in s.decl b) (sizes_of s.decl b) s.rows b run)) b n)
      ∙ get_or-set_other s.rows.counts b own (count_of s.rows b + 1) 0 (λ e. other (sym e))

  abbrev step : Seats
  step = vacated_seats (block_in s.decl own) (sizes_of s.decl own) (seats_of s.ids.archetypes s.ids.indices taken) own (row_of s n)

  vacant : store_of s.decl (ids_of s.ids.head s.ids.generations step.archetypes step.indices s.ids.pending) step.rows s.words ≡ row_moved s n b run
  unfolding row_moved
  vacant =
      vacating (seated s b n run) own (row_of s n) step.archetypes step.indices step.rows
      (omega (arith, same_count)) (omega (arith, same_count)) refl

  pub has_moved : (archetypes indices : List ℕ) (w : Rows)
      → seats_of archetypes indices w ≡ moved_seats (block_in s.decl own) (sizes_of s.decl own) (block_in s.decl b) (sizes_of s.decl b) (seats_of s.ids.archetypes s.ids.indices s.rows) own (row_of s n) b n run
      → store_of s.decl (ids_of s.ids.head s.ids.generations archetypes indices s.ids.pending) w s.words ≡ moved_to s n b run
  unfolding moved_seats moved_to
  has_moved archetypes indices w v =
      let x : archetypes ≡ set step.archetypes n b = ap (λ (t : Seats). t.archetypes) v in
      let y : indices ≡ set step.indices n (count_of s.rows b) = ap (λ (t : Seats). t.indices) v in
      let z : w ≡ step.rows = ap (λ (t : Seats). t.rows) v in
      rw (← vacant, x, y, z)
