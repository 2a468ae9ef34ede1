-- Where an archetype's columns and cells are in the lent tables.
-- Assumes nothing.
use Prim.Native.Nat.{ℕ, ◌+◌, ◌-◌, ◌≤◌, ◌<◌}
use mathlib.Core.List.{List}
use mathlib.Core.Path.{◌≡◌, sym, ap, ◌∙◌}
use native.Mathlib.Omega.{arith}
use lib.ListN.{length, get_or, take, drop}
use lib.Seq.{take-take}
use Rattle.refusal.specs.Table.{granted, refused}
use Rattle.decl.specs.Decl.{Decl, archetypes, rows_of, width_of, first_column, types_of, sizes_of, size_of}
use Rattle.decl.specs.Places.{base_of, cell_start, span_of}
use Rattle.decl.specs.Lookup.{column_of, searched}
use Rattle.std.specs.Prelude.{Option, Some, None}
use Rattle.decl.specs.declared.Span.{Span}
use Rattle.decl.proofs.Search.{Stands, column_stands, searched_rising}
use Rattle.decl.proofs.Keeping.{types_length, sizes_length, size_at}
use Rattle.decl.proofs.Placing.{base_grows, column_within, cell_within, total_in}
use Rattle.decl.proofs.Lending.{columns_in, types_lent, sizes_lent, column_start_lem, cell_start_lem}
use Rattle.cells.specs.Line.{line_of, cell_of, past_of, told, line_told}
use Rattle.cells.specs.declared.Line.{Line}
use Rattle.cells.proofs.Lines.{told_fits, cell_told}
use Rattle.cells.proofs.Rows.{past_line}
use Rattle.column_entry.proofs.Widths.{firsts}
use Rattle.column_entry.specs.Kept.{Kept}
use Rattle.store_steps.specs.Parts.{part_by}
use Rattle.store_steps.proofs.Laws.{part_cut, sizes_by}
use Rattle.store_reads.specs.Component.{column_cell}

-- a type that an archetype has stands at one of its columns
pub column_in : (d : Decl) (a t j : ℕ) → Kept d → column_of (types_of d a) t ≡ Some j → j < width_of d a
column_in d a t j k e =
    let s : Stands (types_of d a) t (Some j) = rw e at (column_stands (types_of d a) t) in
    omega (arith, s.0, types_length d k.declared.shaped a)

-- and its word, among those of all columns
pub word_in : (d : Decl) (a t j : ℕ) → Kept d → column_of (types_of d a) t ≡ Some j → first_column d a + j < length d.types
word_in d a t j k e = omega (arith, column_in d a t j k e, columns_in d a k.declared.shaped, k.declared.shaped.types_long)

-- a cell lies in the buffer
pub cell_fits : (d : Decl) (a j r : ℕ) → a < archetypes d → r < rows_of d a → cell_start d a j r + size_of d a j ≤ base_of d (archetypes d)
cell_fits d a j r h k = omega (arith, cell_within d a j r k, column_within d a j, base_grows d (a + 1) (archetypes d) (omega arith))

-- What the span of an archetype says.
module _ (d : Decl) (a : ℕ) (k : Kept d) (s : Span) (span : s ≡ span_of d a) where
  starts : s.column ≡ first_column d a
  starts = ap (λ (x : Span). x.column) span

  wide : s.columns ≡ width_of d a
  wide = ap (λ (x : Span). x.columns) span

  -- the search in its part of the types
  module _ (t : ℕ) (c : Option ℕ) (found : c ≡ searched (take (s.column + s.columns - s.column) (drop s.column d.types)) t) where
    pub column_found : c ≡ column_of (types_of d a) t
    column_found =
        found ∙ ap (λ (xs : List ℕ). searched xs t) (types_lent d a s.column (s.column + s.columns) starts (ap (λ n. s.column + n) wide))
        ∙ searched_rising (types_of d a) (k.declared.rises a) t

    module _ (j : ℕ) (e : c ≡ Some j) where
      pub column_within_span : j < s.columns
      column_within_span = omega (arith, wide, column_in d a t j k (sym column_found ∙ e))

      sizes_before : take (s.column + j - s.column) (drop s.column d.sizes) ≡ take j (sizes_of d a)
      sizes_before =
          let b : s.column + j - s.column ≡ j = omega arith in
          let w : s.column + s.columns - s.column ≡ s.columns = omega arith in
          rw (b, ← sizes_lent d a s.column (s.column + s.columns) starts (ap (λ n. s.column + n) wide), w)
          (sym (take-take j s.columns (drop s.column d.sizes) (omega (arith, column_within_span))))

      size_told : get_or d.sizes (s.column + j) 0 ≡ size_of d a j
      size_told = rw starts (sym (size_at d a j (column_in d a t j k (sym column_found ∙ e))))

      pub cell_found : (r : ℕ) → a < archetypes d → r < rows_of d a → (here : Line) (start : ℕ)
          → here ≡ line_told (past_of (line_of s.base (rows_of d a) r) (take (s.column + j - s.column) (drop s.column d.sizes)))
          → start ≡ told (cell_of here (get_or d.sizes (s.column + j) 0))
          → granted (record { word = s.column + j; start = start; size = get_or d.sizes (s.column + j) 0 }) ≡ column_cell d a r (column_of (types_of d a) t)
      cell_found r declared row here start p q =
          let base : s.base ≡ base_of d a = ap (λ (x : Span). x.base) span in
          let line : Line = line_of (base_of d a) (rows_of d a) r in
          let long : j ≤ length (sizes_of d a) = omega (arith, sizes_length d k.declared.shaped a, column_in d a t j k (sym column_found ∙ e)) in
          let placed : cell_of (past_of line (take j (sizes_of d a))) (size_of d a j) ≡ cell_start d a j r =
          rw (past_line (take j (sizes_of d a)) line, cell_start_lem d a j r, column_start_lem d a j, firsts (sizes_of d a) j long) in
          let there : start ≡ cell_start d a j r =
          (rw (p, size_told, sizes_before, base) at q) ∙ cell_told (past_of line (take j (sizes_of d a))) (size_of d a j) ∙ ap told placed
          ∙ sym (told_fits (cell_start d a j r) (omega (arith, cell_fits d a j r declared row, total_in d k.declared))) in
          rw (← column_found, e, there, size_told, starts)

-- The same in the parts that are cut by the span.
module _ (d : Decl) (a : ℕ) (k : Kept d) (s : Span) (span : s ≡ span_of d a) (t : ℕ) (c : Option ℕ) (found : c ≡ searched (part_by d.types s) t) where
  whole : (xs : List ℕ) → part_by xs s ≡ take (s.column + s.columns - s.column) (drop s.column xs)
  whole xs = let e : s.column + s.columns - s.column ≡ s.columns = omega arith in rw e (part_cut xs s)

  seen : c ≡ searched (take (s.column + s.columns - s.column) (drop s.column d.types)) t
  seen = found ∙ ap (λ (xs : List ℕ). searched xs t) (whole d.types)

  pub column_named : c ≡ column_of (types_of d a) t
  column_named = column_found d a k s span t c seen

  pub cell_missing : (r : ℕ) → c ≡ None → refused 15 ≡ column_cell d a r (column_of (types_of d a) t)
  cell_missing r e = rw (← column_named, e)

  module _ (j : ℕ) (e : c ≡ Some j) where
    pub word_fits : s.column + j < length d.types
    word_fits = rw (starts d a k s span) (word_in d a t j k (sym column_named ∙ e))

    -- its size, among those of the archetype's own columns
    module _ (sizes : List ℕ) (own : sizes ≡ part_by d.sizes s) where
      own_sizes : sizes ≡ sizes_of d a
      own_sizes = own ∙ sizes_by d a s span

      pub size_within : j < length sizes
      size_within = rw own_sizes (omega (arith, sizes_length d k.declared.shaped a, column_in d a t j k (sym column_named ∙ e)))

      size_here : get_or sizes j 0 ≡ get_or d.sizes (s.column + j) 0
      size_here = ap (λ (xs : List ℕ). get_or xs j 0) own_sizes ∙ sym (size_told d a k s span t c seen j e)

      before_here : take j sizes ≡ take (s.column + j - s.column) (drop s.column d.sizes)
      before_here = ap (take j) own_sizes ∙ sym (sizes_before d a k s span t c seen j e)

      pub cell_named : (r : ℕ) → a < archetypes d → r < rows_of d a → (here : Line) (start : ℕ)
          → here ≡ line_told (past_of (line_of s.base (rows_of d a) r) (take j sizes)) → start ≡ told (cell_of here (get_or sizes j 0))
          → granted (record { word = s.column + j; start = start; size = get_or sizes j 0 }) ≡ column_cell d a r (column_of (types_of d a) t)
      cell_named r declared row here start p q =
          rw size_here (cell_found d a k s span t c seen j e r declared row here start (rw before_here at p) (rw size_here at q))
