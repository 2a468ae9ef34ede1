-- What rows hold once a run of columns was moved: from one row to another, and from a run of bytes.
-- Assumes nothing.
use Prim.Native.Nat.{ℕ, zero, suc, ◌+◌, ◌*◌, ◌≤◌, ◌<◌}
use mathlib.Core.List.{List}
use mathlib.Core.Path.{◌≡◌, sym, ap, ◌∙◌}
use native.Mathlib.Nat.{add_assoc}
use native.Mathlib.Omega.{arith}
use lib.ListN.{length, get_or, take, drop, length-take, length-drop}
use lib.Seq.{get_or-take, get_or-drop}
use Rattle.decl.specs.Decl.{Decl, archetypes, rows_of, width_of, first_column, sizes_of, size_of}
use Rattle.decl.specs.Places.{base_of, column_start, cell_start}
use Rattle.decl.specs.Kept.{Shaped}
use Rattle.decl.proofs.Keeping.{size_at}
use Rattle.decl.proofs.Placing.{start_first, start_next, cell_within, column_within, base_grows, total_in}
use Rattle.decl.proofs.Lending.{columns_in, column_start_lem, cell_start_lem}
use Rattle.cells.specs.Cell.{cell}
use Rattle.cells.specs.Line.{line_of, past_of, cell_at, width, carried, transferred, line_told}
use Rattle.cells.specs.declared.Line.{Line}
use Rattle.cells.proofs.Laws.{Apart}
use Rattle.cells.proofs.Lines.{told_fits}
use Rattle.cells.proofs.Rows.{past_line, cell_at_lem, Within, Parted, carried_apart, carried_there, transferred_apart, transferred_there}
use Rattle.cells.proofs.Blocks.{width_none, width_next}
use Rattle.row_step.specs.Tables.{Rows, tables_of, line_in}
use Rattle.column_entry.proofs.Widths.{firsts}
use Rattle.column_entry.specs.Entry.{block_in}
use Rattle.column_entry.specs.Kept.{Kept, Tabled}
use Rattle.columns.specs.Calls.{held_at}
use Rattle.columns.proofs.Held.{cells_part}

-- the sizes of columns of archetype a, from column k on
pub record Run (d : Decl) (a k : ℕ) (ns : List ℕ) : Type 0 where
  pub declared : a < archetypes d
  pub fits : k + length ns ≤ width_of d a
  pub sizes : (j : ℕ) → j < length ns → get_or ns j 0 ≡ size_of d a (k + j)

-- row r of archetype a from column k on
abbrev pub line_from : Decl → ℕ → ℕ → ℕ → Line
line_from d a k r = line_of (column_start d a k) (rows_of d a) r

-- it begins past the columns before, and 64 bits have its place
pub past_from : (d : Decl) (a k r : ℕ) → k ≤ length (sizes_of d a) → past_of (line_in (block_in d a) r) (take k (sizes_of d a)) ≡ line_from d a k r
past_from d a k r h = past_line (take k (sizes_of d a)) (line_in (block_in d a) r) ∙ rw (column_start_lem d a k, firsts (sizes_of d a) k h)

pub whole_from : (d : Decl) (a r : ℕ) → line_in (block_in d a) r ≡ line_from d a 0 r
whole_from d a r = rw (start_first d a)

pub told_from : (d : Decl) (a k r : ℕ) → Kept d → a < archetypes d → line_told (line_from d a k r) ≡ line_from d a k r
told_from d a k r g h =
    let e = sym (told_fits (column_start d a k) (omega (arith, column_within d a k, base_grows d (a + 1) (archetypes d) (omega arith), total_in d g.declared))) in
    λ i. line_of (e i) (rows_of d a) r

-- the part of all sizes from column k of archetype a on is such a run
pub run_lent : (d : Decl) (a k n : ℕ) → Shaped d → a < archetypes d → k + n ≤ width_of d a → Run d a k (take n (drop (first_column d a + k) d.sizes))
run_lent d a k n g h f =
    let e : length (take n (drop (first_column d a + k) d.sizes)) ≡ n =
    simp (length-take, length-drop) (omega (arith, columns_in d a g, g.sizes_long)) in
    record {
      declared = h;
      fits = omega arith;
      sizes = λ j l.
          let i : j < n = omega arith in
          get_or-take n (drop (first_column d a + k) d.sizes) j 0 i ∙ get_or-drop (first_column d a + k) d.sizes j 0
          ∙ ap (λ (x : ℕ). get_or d.sizes x 0) (add_assoc (first_column d a) k j) ∙ sym (size_at d a (k + j) (omega arith));
    }

module _ (d : Decl) (a k : ℕ) (ns : List ℕ) (run : Run d a k ns) (r : ℕ) (row : r < rows_of d a) where
  -- where its columns and cells are
  run_start_lem : (j : ℕ) → j ≤ length ns → column_start d a (k + j) ≡ column_start d a k + rows_of d a * width (take j ns)
  run_start_lem zero h = let e : k + 0 ≡ k = omega arith in rw (e, width_none ns) (omega arith)
  run_start_lem (suc j) h =
      let e : k + suc j ≡ k + j + 1 = omega arith in
      rw (e, width_next ns j h, run.sizes j h) (omega (arith, start_next d a (k + j), run_start_lem j (omega arith)))

  pub run_cell : (j : ℕ) → j < length ns → cell_at (line_from d a k r) ns j ≡ cell_start d a (k + j) r
  run_cell j h = cell_at_lem (line_from d a k r) ns j ∙ rw (cell_start_lem d a (k + j) r, run_start_lem j (omega arith), run.sizes j h)

  run_within : (len : ℕ) → len ≡ base_of d (archetypes d) → Within len (line_from d a k r) ns
  run_within len e =
      record {
        each = λ j h.
            rw (run_cell j h, run.sizes j h)
            (omega (arith, cell_within d a (k + j) r row, column_within d a (k + j), base_grows d (a + 1) (archetypes d) (omega (arith, run.declared))));
      }

  run_parted : Parted (line_from d a k r) ns
  run_parted =
      record {
        each = λ i j l h.
            let g : i < length ns = omega arith in
            rw (run_cell i g, run_cell j h, run.sizes i g, run.sizes j h) (cells_part d a a r r (k + i) (k + j) row row (λ _ e _. omega arith));
      }

  -- another cell overlaps none of its cells
  run_apart : (c q i : ℕ) → q < rows_of d c → (c ≡ a → q ≡ r → (j : ℕ) → j < length ns → i ≡ k + j → ⊥)
      → (j : ℕ) → j < length ns → Apart (cell_start d c i q) (size_of d c i) (cell_at (line_from d a k r) ns j) (get_or ns j 0)
  run_apart c q i h f j l = rw (run_cell j l, run.sizes j l) (cells_part d c a q r i (k + j) h row (λ p e s. f p s j l e))

-- From one row to another.
module _ (d : Decl) (w : Rows) (t : Tabled d w) (ns : List ℕ) (a k r : ℕ) (from : Run d a k ns) (source : r < rows_of d a)
    (b l q : ℕ) (to : Run d b l ns) (target : q < rows_of d b) where
  abbrev pub carried_to : Rows
  carried_to = tables_of w.numbers w.counts (carried w.bytes (line_from d a k r) (line_from d b l q) ns)

  -- its cells hold what the other's held
  pub carried_held : (a ≡ b → r ≡ q → ⊥) → (j : ℕ) → j < length ns → held_at d carried_to b q (l + j) ≡ held_at d w a r (k + j)
  unfolding held_at
  carried_held e j h =
      rw (← run_cell d b l ns to q target j h, ← run_cell d a k ns from r source j h, ← to.sizes j h, ← from.sizes j h)
      (carried_there ns w.bytes (line_from d a k r) (line_from d b l q)
      (run_within d a k ns from r source (length w.bytes) t.bytes_long)
      (run_within d b l ns to q target (length w.bytes) t.bytes_long)
      (record {
        each = λ i n m g.
            let f : i < length ns = omega arith in
            rw (run_cell d b l ns to q target i f, run_cell d a k ns from r source n g, to.sizes i f, from.sizes n g)
            (cells_part d a b r q (k + n) (l + i) source target (λ p _ s. e p s));
      })
      (run_parted d b l ns to q target) j h)

  -- every other component of every row is as it was
  pub carried_kept : (c s i : ℕ) → s < rows_of d c → (c ≡ b → s ≡ q → (j : ℕ) → j < length ns → i ≡ l + j → ⊥) → held_at d carried_to c s i ≡ held_at d w c s i
  unfolding held_at
  carried_kept c s i h f =
      carried_apart ns w.bytes (line_from d a k r) (line_from d b l q) (cell_start d c i s) (size_of d c i) (run_apart d b l ns to q target c s i h f)

-- From a row of another buffer, as a run of bytes.
module _ (d : Decl) (w : Rows) (t : Tabled d w) (ns value : List ℕ) (from : Line) (within : Within (length value) from ns)
    (b l q : ℕ) (to : Run d b l ns) (target : q < rows_of d b) where
  abbrev pub transferred_to : Rows
  transferred_to = tables_of w.numbers w.counts (transferred value from w.bytes (line_from d b l q) ns)

  pub transferred_held : (j : ℕ) → j < length ns → held_at d transferred_to b q (l + j) ≡ cell value (cell_at from ns j) (get_or ns j 0)
  unfolding held_at
  transferred_held j h =
      rw (← run_cell d b l ns to q target j h, ← to.sizes j h)
      (transferred_there ns value w.bytes from (line_from d b l q) within
      (run_within d b l ns to q target (length w.bytes) t.bytes_long) (run_parted d b l ns to q target) j h)

  pub transferred_kept : (c s i : ℕ) → s < rows_of d c → (c ≡ b → s ≡ q → (j : ℕ) → j < length ns → i ≡ l + j → ⊥) → held_at d transferred_to c s i ≡ held_at d w c s i
  unfolding held_at
  transferred_kept c s i h f =
      transferred_apart ns value w.bytes from (line_from d b l q) (cell_start d c i s) (size_of d c i) (run_apart d b l ns to q target c s i h f)
