-- Where the cells of a block of columns lie: rows of one block, and cells of two blocks, do not overlap.
-- Assumes nothing.
use Prim.Native.Nat.{ℕ, zero, suc, ◌+◌, ◌*◌, ◌≤◌, ◌<◌}
use mathlib.Core.Bool.{Bool, true, false}
use mathlib.Core.List.{List, [], ◌∷◌}
use mathlib.Core.Logic.{◌⊎◌, inl, inr, ⊎_elim}
use mathlib.Core.Path.{◌≡◌, refl, ap}
use native.Mathlib.Nat.{eq-or-lt_of_le, le_of_suc-le-suc, not-suc-le-zero, suc-mul, mul-le-mul_left, mul-le-mul_right}
use native.Mathlib.Omega.{arith}
use borrow.Author.Tests.{ltb-true, ltb-false}
use lib.Dec.{ltb}
use lib.ListN.{length, get_or, take}
use lib.Seq.{take-length}
use Rattle.cells.specs.Line.{line_of, cell_of, next_of, cell_at, width, carried}
use Rattle.cells.specs.declared.Line.{Line}
use Rattle.cells.proofs.Laws.{Apart, copied_self}
use Rattle.cells.proofs.Rows.{cell_at_lem, Within, Parted, Ahead}

pub lt_or_ge : (a b : ℕ) → (a < b) ⊎ (b ≤ a)
lt_or_ge a b = by_test (ltb a b) refl
  where
    by_test : (t : Bool) → ltb a b ≡ t → (a < b) ⊎ (b ≤ a)
    by_test true e = inl (ltb-true a b e)
    by_test false e = inr (ltb-false a b e)

-- a row's cell ends where the next row's starts, at the latest
row_step : (r n s : ℕ) → r < n → r * s + s ≤ n * s
row_step r n s h = rw (← suc-mul r s) (mul-le-mul_right s h)

-- the columns before the first, and before the next
pub width_none : (ns : List ℕ) → width (take 0 ns) ≡ 0
unfolding width
width_none ns = refl

pub width_next : (ns : List ℕ) (j : ℕ) → j < length ns → width (take (suc j) ns) ≡ width (take j ns) + get_or ns j 0
unfolding width
width_next [] j h = absurd (not-suc-le-zero h)
width_next (n ∷ ns) zero h = omega arith
width_next (n ∷ ns) (suc j) h = omega (arith, width_next ns j (le_of_suc-le-suc h))

-- a column ends where a later column starts, at the latest
pub width_take : (ns : List ℕ) (i j : ℕ) → i < j → i < length ns → width (take i ns) + get_or ns i 0 ≤ width (take j ns)
unfolding width
width_take [] i j h k = absurd (not-suc-le-zero k)
width_take (n ∷ ns) i zero h k = absurd (not-suc-le-zero h)
width_take (n ∷ ns) zero (suc j) h k = omega arith
width_take (n ∷ ns) (suc i) (suc j) h k = omega (arith, width_take ns i j (le_of_suc-le-suc h) (le_of_suc-le-suc k))

pub width_all : (ns : List ℕ) (i : ℕ) → i < length ns → width (take i ns) + get_or ns i 0 ≤ width ns
width_all ns i h = rw (ap width (take-length ns)) at (width_take ns i (length ns) h h)

module _ (ns : List ℕ) (s n : ℕ) where
  -- where a row's cell in a column is
  place : (r j : ℕ) → cell_at (line_of s n r) ns j ≡ s + n * width (take j ns) + r * get_or ns j 0
  place r j = cell_at_lem (line_of s n r) ns j

  -- it ends where the next column starts, at the latest
  ends : (r j : ℕ) → r < n → cell_at (line_of s n r) ns j + get_or ns j 0 ≤ s + n * (width (take j ns) + get_or ns j 0)
  ends r j h = omega (arith, place r j, row_step r n (get_or ns j 0) h)

  -- and lies within the block
  pub block_starts : (r j : ℕ) → s ≤ cell_at (line_of s n r) ns j
  block_starts r j = omega (arith, place r j)

  pub block_ends : (r j : ℕ) → r < n → j < length ns → cell_at (line_of s n r) ns j + get_or ns j 0 ≤ s + n * width ns
  block_ends r j h k = omega (arith, ends r j h, mul-le-mul_left n (width_all ns j k))

  pub within_block : (r len : ℕ) → r < n → s + n * width ns ≤ len → Within len (line_of s n r) ns
  within_block r len h k = record { each = λ j i. omega (arith, block_ends r j h i) }

  -- cells of two columns, of any two rows
  columns_apart : (r q i j : ℕ) → r < n → i < j → i < length ns → cell_at (line_of s n r) ns i + get_or ns i 0 ≤ cell_at (line_of s n q) ns j
  columns_apart r q i j h k l = omega (arith, ends r i h, mul-le-mul_left n (width_take ns i j k l), place q j)

  pub parted_block : (r : ℕ) → r < n → Parted (line_of s n r) ns
  parted_block r h = record { each = λ i j k l. inl (columns_apart r r i j h k (omega arith)) }

  -- cells of two rows, of any two columns
  pub rows_apart : (r q i j : ℕ) → r < n → q < n → (r ≡ q → ⊥) → i < length ns → j < length ns
      → Apart (cell_at (line_of s n r) ns i) (get_or ns i 0) (cell_at (line_of s n q) ns j) (get_or ns j 0)
  rows_apart r q i j h k d il jl =
      ⊎_elim (λ (a : i < j). inl (columns_apart r q i j h a il))
      (λ (a : j ≤ i). ⊎_elim
      (λ (e : j ≡ i). rw e (same_column i (lt_or_ge r q)))
      (λ (b : j < i). inr (columns_apart q r j i k b jl))
      (eq-or-lt_of_le a))
      (lt_or_ge i j)
    where
      same_column : (c : ℕ) → (r < q) ⊎ (q ≤ r) → Apart (cell_at (line_of s n r) ns c) (get_or ns c 0) (cell_at (line_of s n q) ns c) (get_or ns c 0)
      same_column c (inl a) = inl (omega (arith, place r c, place q c, row_step r q (get_or ns c 0) a))
      same_column c (inr a) = inr (omega (arith, place r c, place q c, row_step q r (get_or ns c 0) (omega (arith, d))))

  pub ahead_rows : (r q : ℕ) → r < n → q < n → (r ≡ q → ⊥) → Ahead (line_of s n r) (line_of s n q) ns
  ahead_rows r q h k d = record { each = λ i j a l. rows_apart r q j i h k d l (omega arith) }

-- Cells of two blocks, the one past the other.
module _ (ns ms : List ℕ) (s n t m : ℕ) where
  pub blocks_apart : (r q i j : ℕ) → r < n → q < m → i < length ns → j < length ms → (s + n * width ns ≤ t) ⊎ (t + m * width ms ≤ s)
      → Apart (cell_at (line_of s n r) ns i) (get_or ns i 0) (cell_at (line_of t m q) ms j) (get_or ms j 0)
  blocks_apart r q i j h k il jl =
      ⊎_elim (λ (a : s + n * width ns ≤ t). inl (omega (arith, block_ends ns s n r i h il, block_starts ms t m q j)))
      (λ (a : t + m * width ms ≤ s). inr (omega (arith, block_ends ms t m q j k jl, block_starts ns s n r i)))

-- a row copied over itself is as it was
pub carried_self : (ns b : List ℕ) (l : Line) → carried b l l ns ≡ b
unfolding carried
carried_self [] b l = refl
carried_self (n ∷ ns) b l = rw (copied_self b (cell_of l n) n) (carried_self ns b (next_of l n))
