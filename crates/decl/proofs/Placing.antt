-- Where archetypes, columns and cells stand: each ends where the next begins, so that no two have a byte in common.
-- Assumes nothing.
use Prim.Native.Nat.{ℕ, zero, suc, ◌+◌, ◌*◌, ◌≤◌, ◌<◌}
use mathlib.Core.Path.{◌≡◌, ap, ◌∙◌}
use mathlib.Core.Logic.{⊎_elim}
use mathlib.Core.List.{List}
use native.Mathlib.Nat.{le_of_suc-le-suc, eq-or-lt_of_le, mul-add, mul-zero, suc-mul, mul-le-mul, mul-le-mul_right}
use native.Mathlib.Numerals.{add-one}
use native.Mathlib.Omega.{arith}
use lib.ListN.{length, get_or, take}
use lib.Seq.{take_all}
use Rattle.decl.specs.Limits.{max_archetypes, max_columns, max_size, max_rows}
use Rattle.decl.specs.Lists.{sum, first_of}
use Rattle.decl.specs.Decl.{Decl, archetypes, rows_of, width_of, first_row, first_column, sizes_of, size_of}
use Rattle.decl.specs.Places.{row_width, base_of, column_start, cell_start}
use Rattle.decl.specs.Kept.{Shaped, Declared}
use Rattle.decl.proofs.Lists.{first_next, first_in, part_fits, sum_in}
use Rattle.decl.proofs.Keeping.{sizes_length}

-- n rows of what comes first, and of the next
spread : (n : ℕ) (xs : List ℕ) (j : ℕ) → n * sum (take (suc j) xs) ≡ n * sum (take j xs) + n * get_or xs j 0
unfolding first_of
spread n xs j = ap (λ (s : ℕ). n * s) (first_next xs j) ∙ mul-add n (sum (take j xs)) (get_or xs j 0)

module _ (d : Decl) where
  pub row_next : (a : ℕ) → first_row d (a + 1) ≡ first_row d a + rows_of d a
  unfolding first_row
  row_next a = rw add-one (first_next d.rows a)

  pub column_next : (a : ℕ) → first_column d (a + 1) ≡ first_column d a + width_of d a
  unfolding first_column
  column_next a = rw add-one (first_next d.widths a)

  -- the rows and the columns of an archetype end before those of a later one begin
  pub rows_apart : (a b : ℕ) → a < b → first_row d a + rows_of d a ≤ first_row d b
  unfolding first_row
  rows_apart a b h = part_fits d.rows a b h

  pub columns_follow : (a b : ℕ) → a < b → first_column d a + width_of d a ≤ first_column d b
  unfolding first_column
  columns_follow a b h = part_fits d.widths a b h

  pub base_next : (a : ℕ) → base_of d (a + 1) ≡ base_of d a + rows_of d a * row_width d a
  unfolding base_of
  base_next a = rw add-one

  pub start_first : (a : ℕ) → column_start d a 0 ≡ base_of d a
  unfolding column_start sum
  start_first a = rw mul-zero (omega arith)

  pub start_next : (a j : ℕ) → column_start d a (j + 1) ≡ column_start d a j + rows_of d a * size_of d a j
  unfolding column_start
  start_next a j = rw (add-one j, spread (rows_of d a) (sizes_of d a) j) (omega arith)

  -- the last column ends where the next archetype's bytes begin
  pub start_last : (a j : ℕ) → length (sizes_of d a) ≤ j → column_start d a j ≡ base_of d (a + 1)
  unfolding column_start row_width
  start_last a j h = rw (base_next a, take_all j (sizes_of d a) h)

  pub base_grows : (a b : ℕ) → a ≤ b → base_of d a ≤ base_of d b
  base_grows a zero h = let e : a ≡ 0 = omega arith in rw e (omega arith)
  base_grows a (suc b) h =
      ⊎_elim (λ e. rw e (omega arith))
      (λ k. omega (arith, base_grows a b (le_of_suc-le-suc k), rw add-one at (base_next b))) (eq-or-lt_of_le h)

  pub start_grows : (a j k : ℕ) → j ≤ k → column_start d a j ≤ column_start d a k
  start_grows a j zero h = let e : j ≡ 0 = omega arith in rw e (omega arith)
  start_grows a j (suc k) h =
      ⊎_elim (λ e. rw e (omega arith))
      (λ l. omega (arith, start_grows a j k (le_of_suc-le-suc l), rw add-one at (start_next a k))) (eq-or-lt_of_le h)

  pub start_within : (a j : ℕ) → base_of d a ≤ column_start d a j
  start_within a j = omega (arith, start_first a, start_grows a 0 j (omega arith))

  -- a column lies within its archetype
  pub column_within : (a j : ℕ) → column_start d a j + rows_of d a * size_of d a j ≤ base_of d (a + 1)
  column_within a j =
      let n : ℕ = length (sizes_of d a) in
      omega (arith, start_next a j, start_grows a (j + 1) (j + 1 + n) (omega arith), start_last a (j + 1 + n) (omega arith))

  -- columns of one archetype, and of two, have no byte in common
  pub columns_apart : (a j k : ℕ) → j < k → column_start d a j + rows_of d a * size_of d a j ≤ column_start d a k
  columns_apart a j k h = omega (arith, start_next a j, start_grows a (j + 1) k (omega arith))

  pub archetypes_apart : (a b j k : ℕ) → a < b → column_start d a j + rows_of d a * size_of d a j ≤ column_start d b k
  archetypes_apart a b j k h = omega (arith, column_within a j, base_grows (a + 1) b (omega arith), start_within b k)

  -- a row's cell lies within its column, and before the next row's
  pub cell_next : (a j r : ℕ) → cell_start d a j (r + 1) ≡ cell_start d a j r + size_of d a j
  unfolding cell_start
  cell_next a j r = rw (add-one r, suc-mul) (omega arith)

  pub cell_grows : (a j r s : ℕ) → r ≤ s → cell_start d a j r ≤ cell_start d a j s
  unfolding cell_start
  cell_grows a j r s h = omega (arith, mul-le-mul_right (size_of d a j) h)

  pub cells_apart : (a j r s : ℕ) → r < s → cell_start d a j r + size_of d a j ≤ cell_start d a j s
  cells_apart a j r s h = omega (arith, cell_next a j r, cell_grows a j (r + 1) s (omega arith))

  pub cell_from : (a j r : ℕ) → column_start d a j ≤ cell_start d a j r
  unfolding cell_start
  cell_from a j r = omega arith

  pub cell_within : (a j r : ℕ) → r < rows_of d a → cell_start d a j r + size_of d a j ≤ column_start d a j + rows_of d a * size_of d a j
  unfolding cell_start
  cell_within a j r h = omega (arith, rw suc-mul at (mul-le-mul_right (size_of d a j) h))

  -- How large they can be.
  pub row_in : Shaped d → (a : ℕ) → first_row d a ≤ max_rows * a
  unfolding first_row
  row_in g a = first_in max_rows d.rows g.rows_in a

  pub column_in : Shaped d → (a : ℕ) → first_column d a ≤ max_columns * a
  unfolding first_column
  column_in g a = first_in max_columns d.widths g.widths_in a

  pub width_in : Declared d → (a : ℕ) → row_width d a ≤ max_size * max_columns
  unfolding row_width
  width_in k a = omega (arith, sum_in max_size (sizes_of d a) (k.sizes_in a), sizes_length d k.shaped a, k.shaped.widths_in a)

  pub base_in : Declared d → (a : ℕ) → base_of d a ≤ max_rows * (max_size * max_columns) * a
  unfolding base_of
  base_in k zero = omega arith
  base_in k (suc a) = omega (arith, base_in k a, mul-le-mul (k.shaped.rows_in a) (width_in k a))

  pub total_in : Declared d → base_of d (archetypes d) ≤ max_rows * (max_size * max_columns) * max_archetypes
  total_in k = omega (arith, base_in k (archetypes d), k.shaped.few)
