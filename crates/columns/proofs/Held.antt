-- What rows hold once a row was appended or removed, or a component put: that row, and every other row of every archetype.
-- Assumes nothing.
use Prim.Native.Nat.{ℕ, ◌+◌, ◌≤◌, ◌<◌}
use mathlib.Core.List.{List}
use mathlib.Core.Logic.{inl, inr, ⊎_elim}
use mathlib.Core.Path.{◌≡◌, sym, ap, ◌∙◌}
use native.Mathlib.Nat.{eq-or-lt_of_le}
use native.Mathlib.Omega.{arith}
use lib.ListN.{length, get_or, length-set}
use lib.Seq.{get_or-set_same, get_or-set_other}
use Rattle.decl.specs.Decl.{Decl, archetypes, rows_of, width_of, first_row, sizes_of, size_of}
use Rattle.decl.specs.Places.{cell_start}
use Rattle.decl.proofs.Lists.{below_or_not}
use Rattle.decl.proofs.Keeping.{sizes_length}
use Rattle.decl.proofs.Placing.{row_next, columns_apart, archetypes_apart, cells_apart, cell_from, cell_within, column_within, base_grows}
use Rattle.cells.specs.Cell.{cell}
use Rattle.cells.proofs.Laws.{Apart, length_written, cell_written_lem, written_apart}
use Rattle.cells.proofs.Rows.{carried_apart}
use Rattle.row_step.specs.Tables.{Rows, count_of, last_of, line_in}
use Rattle.row_step.proofs.Held.{held_cell, same_or_not, appended_numbers, appended_counts, appended_bytes, removed_numbers, removed_counts, removed_bytes, removed_length, removed_held}
use Rattle.column_entry.proofs.Widths.{line_cell, block_in_lem}
use Rattle.column_entry.specs.Entry.{block_in}
use Rattle.column_entry.specs.Kept.{Tabled, Ready, There}
use Rattle.column_entry.proofs.Keeping.{row_within}
use Rattle.columns.specs.Calls.{held_at, number_at, appended_to, removed_from, written_to}
use Rattle.columns.proofs.Places.{rows_grow, rows_in}

-- two numbers: below, the same, or above
order : {A : Type 0} (m n : ℕ) → (m < n → A) → (m ≡ n → A) → (n < m → A) → A
order m n below same above = ⊎_elim below (λ (h : n ≤ m). ⊎_elim (λ e. same (sym e)) above (eq-or-lt_of_le h)) (below_or_not m n)

module _ (d : Decl) where
  -- no two cells overlap
  pub cells_part : (a b r q i j : ℕ) → r < rows_of d a → q < rows_of d b → (a ≡ b → i ≡ j → r ≡ q → ⊥)
      → Apart (cell_start d a i r) (size_of d a i) (cell_start d b j q) (size_of d b j)
  cells_part a b r q i j h k d' =
      order a b
      (λ (l : a < b). inl (omega (arith, archetypes_apart d a b i j l, cell_within d a i r h, cell_from d b j q)))
      (λ (e : a ≡ b). in_one e)
      (λ (l : b < a). inr (omega (arith, archetypes_apart d b a j i l, cell_within d b j q k, cell_from d a i r)))
    where
      in_column : a ≡ b → i ≡ j → Apart (cell_start d a i r) (size_of d a i) (cell_start d a i q) (size_of d a i)
      in_column e f =
          order r q (λ l. inl (cells_apart d a i r q l)) (λ g. absurd (d' e f g)) (λ l. inr (cells_apart d a i q r l))

      in_one : a ≡ b → Apart (cell_start d a i r) (size_of d a i) (cell_start d b j q) (size_of d b j)
      in_one e =
          order i j
          (λ (l : i < j). rw (← e) (inl (omega (arith, columns_apart d a i j l, cell_within d a i r h, cell_from d a j q))))
          (λ (f : i ≡ j). rw (← e, ← f) (in_column e f))
          (λ (l : j < i). rw (← e) (inr (omega (arith, columns_apart d a j i l, cell_within d a j q (rw (← e) at k), cell_from d a i r))))

  -- no two rows stand in one place of the row numbers
  pub rows_part : (a b r q : ℕ) → r < rows_of d a → q < rows_of d b → (a ≡ b → r ≡ q → ⊥) → first_row d a + r ≡ first_row d b + q → ⊥
  rows_part a b r q h k d' e =
      order a b
      (λ (l : a < b). omega (arith, row_next d a, rows_grow d (a + 1) b (omega arith)))
      (λ (f : a ≡ b). d' f (omega (arith, ap (λ (x : ℕ). first_row d x) f)))
      (λ (l : b < a). omega (arith, row_next d b, rows_grow d (b + 1) a (omega arith)))

-- the place of a row among the row numbers is in the table
row_in : {d : Decl} {w : Rows} → Tabled d w → (a r : ℕ) → a < archetypes d → r < rows_of d a → first_row d a + r < length w.numbers
row_in {d} {w} t a r h k = omega (arith, rows_in d a h, t.numbers_long)

-- Appended: a row of an archetype that has room.
module _ (d : Decl) (w : Rows) (a n : ℕ) (g : Ready d w) (declared : a < archetypes d) (room : count_of w a < rows_of d a) where
  pub appended_number : number_at d (appended_to d w a n) a (count_of w a) ≡ n
  appended_number =
      ap (λ (l : List ℕ). get_or l (first_row d a + count_of w a) 0) (appended_numbers (block_in d a) w a n)
      ∙ get_or-set_same w.numbers (first_row d a + count_of w a) n 0 (row_in g.tabled a (count_of w a) declared room)

  pub appended_others : (b q : ℕ) → q < rows_of d b → (b ≡ a → q ≡ count_of w a → ⊥) → number_at d (appended_to d w a n) b q ≡ number_at d w b q
  appended_others b q h e =
      ap (λ (l : List ℕ). get_or l (first_row d b + q) 0) (appended_numbers (block_in d a) w a n)
      ∙ get_or-set_other w.numbers (first_row d a + count_of w a) (first_row d b + q) n 0 (rows_part d b a q (count_of w a) h room e)

  pub appended_held : (b q j : ℕ) → held_at d (appended_to d w a n) b q j ≡ held_at d w b q j
  unfolding held_at
  appended_held b q j = ap (λ (l : List ℕ). cell l (cell_start d b j q) (size_of d b j)) (appended_bytes (block_in d a) w a n)

  pub appended_count : count_of (appended_to d w a n) a ≡ count_of w a + 1
  appended_count = rw (appended_counts (block_in d a) w a n) (get_or-set_same w.counts a (count_of w a + 1) 0 (omega (arith, g.tabled.counts_long)))

  pub appended_counts_kept : (b : ℕ) → (b ≡ a → ⊥) → count_of (appended_to d w a n) b ≡ count_of w b
  appended_counts_kept b e = rw (appended_counts (block_in d a) w a n) (get_or-set_other w.counts a b (count_of w a + 1) 0 e)

  pub appended_ready : Ready d (appended_to d w a n)
  appended_ready =
      record {
        tabled = record {
          kept = g.tabled.kept;
          numbers_long = rw (appended_numbers (block_in d a) w a n) (simp length-set g.tabled.numbers_long);
          counts_long = rw (appended_counts (block_in d a) w a n) (simp length-set g.tabled.counts_long);
          bytes_long = rw (appended_bytes (block_in d a) w a n) g.tabled.bytes_long;
        };
        counts_in = λ b. ⊎_elim (λ (e : b ≡ a). rw e (omega (arith, appended_count))) (λ e. rw (appended_counts_kept b e) (g.counts_in b)) (same_or_not b a);
      }

-- Removed: a row that is there.
module _ (d : Decl) (w : Rows) (a r : ℕ) (t : There d w a r) where
  -- its number is the last row's, and every other row's is as it was
  pub removed_number : number_at d (removed_from d w a r) a r ≡ number_at d w a (last_of w a)
  removed_number =
      ap (λ (l : List ℕ). get_or l (first_row d a + r) 0) (removed_numbers (block_in d a) (sizes_of d a) w a r)
      ∙ get_or-set_same w.numbers (first_row d a + r) (number_at d w a (last_of w a)) 0 (row_in t.ready.tabled a r t.archetype_in (row_within t))

  pub removed_others : (b q : ℕ) → q < rows_of d b → (b ≡ a → q ≡ r → ⊥) → number_at d (removed_from d w a r) b q ≡ number_at d w b q
  removed_others b q h e =
      ap (λ (l : List ℕ). get_or l (first_row d b + q) 0) (removed_numbers (block_in d a) (sizes_of d a) w a r)
      ∙ get_or-set_other w.numbers (first_row d a + r) (first_row d b + q) (number_at d w a (last_of w a)) 0 (rows_part d b a q r h (row_within t) e)

  -- it holds what the last row held
  pub removed_row : (j : ℕ) → j < width_of d a → held_at d (removed_from d w a r) a r j ≡ held_at d w a (last_of w a) j
  unfolding held_at
  removed_row j h =
      let l : j < length (sizes_of d a) = omega (arith, sizes_length d t.ready.tabled.kept.declared.shaped a) in
      let b : List ℕ = (removed_from d w a r).bytes in
      ap (λ (x : ℕ). cell b x (size_of d a j)) (sym (line_cell d a r j (omega arith)))
      ∙ sym (held_cell (block_in d a) (sizes_of d a) b r j)
      ∙ removed_held (block_in d a) (sizes_of d a) w a r t.row_in (t.ready.counts_in a)
      (omega (arith, block_in_lem d a t.archetype_in, t.ready.tabled.bytes_long)) j l
      ∙ held_cell (block_in d a) (sizes_of d a) w.bytes (last_of w a) j
      ∙ ap (λ (x : ℕ). cell w.bytes x (size_of d a j)) (line_cell d a (last_of w a) j (omega arith))

  -- every other row of every archetype holds what it held
  pub removed_kept : (b q j : ℕ) → q < rows_of d b → (b ≡ a → q ≡ r → ⊥) → held_at d (removed_from d w a r) b q j ≡ held_at d w b q j
  unfolding held_at
  removed_kept b q j h e =
      ap (λ (l : List ℕ). cell l (cell_start d b j q) (size_of d b j)) (removed_bytes (block_in d a) (sizes_of d a) w a r)
      ∙ carried_apart (sizes_of d a) w.bytes (line_in (block_in d a) (last_of w a)) (line_in (block_in d a) r) (cell_start d b j q) (size_of d b j)
      (λ i l. rw (line_cell d a r i (omega arith)) (cells_part d b a q r j i h (row_within t) (λ p _ s. e p s)))

  pub removed_count : count_of (removed_from d w a r) a ≡ last_of w a
  removed_count =
      rw (removed_counts (block_in d a) (sizes_of d a) w a r) (get_or-set_same w.counts a (last_of w a) 0 (omega (arith, t.ready.tabled.counts_long, t.archetype_in)))

  pub removed_counts_kept : (b : ℕ) → (b ≡ a → ⊥) → count_of (removed_from d w a r) b ≡ count_of w b
  removed_counts_kept b e = rw (removed_counts (block_in d a) (sizes_of d a) w a r) (get_or-set_other w.counts a b (last_of w a) 0 e)

  pub removed_ready : Ready d (removed_from d w a r)
  removed_ready =
      record {
        tabled = record {
          kept = t.ready.tabled.kept;
          numbers_long = rw (removed_numbers (block_in d a) (sizes_of d a) w a r) (simp length-set t.ready.tabled.numbers_long);
          counts_long = rw (removed_counts (block_in d a) (sizes_of d a) w a r) (simp length-set t.ready.tabled.counts_long);
          bytes_long = removed_length (block_in d a) (sizes_of d a) w a r ∙ t.ready.tabled.bytes_long;
        };
        counts_in = λ b.
            ⊎_elim (λ (e : b ≡ a). rw e (omega (arith, removed_count, t.ready.counts_in a))) (λ e. rw (removed_counts_kept b e) (t.ready.counts_in b)) (same_or_not b a);
      }

-- Put: a component of a row.
module _ (d : Decl) (w : Rows) (a r j : ℕ) (vs : List ℕ) (t : There d w a r) (column : j < width_of d a) (size : length vs ≡ size_of d a j) where
  -- the row holds it
  pub put_held : held_at d (written_to d w a r j vs) a r j ≡ vs
  unfolding held_at
  put_held =
      cell_written_lem w.bytes (cell_start d a j r) vs (size_of d a j) size
      (omega (arith, cell_within d a j r (row_within t), column_within d a j, base_grows d (a + 1) (archetypes d) (omega (arith, t.archetype_in)), t.ready.tabled.bytes_long))

  -- every other component of every row is as it was
  pub put_kept : (b q i : ℕ) → q < rows_of d b → (b ≡ a → i ≡ j → q ≡ r → ⊥)
      → held_at d (written_to d w a r j vs) b q i ≡ held_at d w b q i
  unfolding held_at
  put_kept b q i h e =
      written_apart w.bytes (cell_start d a j r) vs (cell_start d b i q) (size_of d b i) (rw size (cells_part d b a q r i j h (row_within t) e))

  pub put_ready : Ready d (written_to d w a r j vs)
  put_ready =
      record {
        tabled = record {
          kept = t.ready.tabled.kept;
          numbers_long = t.ready.tabled.numbers_long;
          counts_long = t.ready.tabled.counts_long;
          bytes_long = length_written w.bytes (cell_start d a j r) vs ∙ t.ready.tabled.bytes_long;
        };
        counts_in = t.ready.counts_in;
      }
