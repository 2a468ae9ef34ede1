-- What rows hold once a row was appended or removed: that row, every other row of the archetype, and all else.
-- Assumes nothing.
use Prim.Native.Nat.{ℕ, ◌+◌, ◌*◌, ◌≤◌, ◌<◌}
use mathlib.Core.Bool.{Bool, true, false}
use mathlib.Core.Option.{none, some}
use mathlib.Core.List.{List}
use mathlib.Core.Logic.{◌⊎◌, inl, inr, ⊎_elim}
use mathlib.Core.Path.{◌≡◌, refl, sym, ap, ◌∙◌}
use native.Mathlib.Omega.{arith}
use borrow.Author.Tests.{lt-ltb, eqb-true, eqb-false}
use lib.Dec.{eqb}
use lib.ListN.{length, get_or, set}
use lib.Seq.{get_or-set_same, get_or-set_other}
use Rattle.cells.specs.Cell.{cell}
use Rattle.cells.specs.Line.{cell_at, width, carried}
use Rattle.cells.proofs.Laws.{Apart}
use Rattle.cells.proofs.Rows.{length_carried, carried_apart, carried_there}
use Rattle.cells.proofs.Blocks.{block_starts, block_ends, within_block, parted_block, rows_apart, ahead_rows, carried_self}
use Rattle.row_step.specs.declared.Block.{Block}
use Rattle.row_step.specs.Tables.{Rows, tables_of, count_of, last_of, number_in, line_in, held_in, appended, removed, moved_by, row_removed}

pub same_or_not : (m n : ℕ) → (m ≡ n) ⊎ (m ≡ n → ⊥)
same_or_not m n = by_test (eqb m n) refl
  where
    by_test : (t : Bool) → eqb m n ≡ t → (m ≡ n) ⊎ (m ≡ n → ⊥)
    by_test true e = inl (eqb-true m n e)
    by_test false e = inr (eqb-false m n e)

pub held_cell : (k : Block) (sizes b : List ℕ) (r j : ℕ) → held_in k sizes b r j ≡ cell b (cell_at (line_in k r) sizes j) (get_or sizes j 0)
unfolding held_in
held_cell k sizes b r j = refl

-- Appended: the tables that are left.
module _ (k : Block) (w : Rows) (a n : ℕ) where
  pub appended_tables : appended k w a n ≡ tables_of (set w.numbers (k.first + count_of w a) n) (set w.counts a (count_of w a + 1)) w.bytes
  unfolding appended
  appended_tables = refl

  pub appended_numbers : (appended k w a n).numbers ≡ set w.numbers (k.first + count_of w a) n
  unfolding appended
  appended_numbers = refl

  pub appended_counts : (appended k w a n).counts ≡ set w.counts a (count_of w a + 1)
  unfolding appended
  appended_counts = refl

  pub appended_bytes : (appended k w a n).bytes ≡ w.bytes
  unfolding appended
  appended_bytes = refl

  -- the number stands in the first unused row, and every other place is as it was
  pub appended_here : k.first + count_of w a < length w.numbers → number_in k (appended k w a n) (count_of w a) ≡ n
  appended_here h = ap (λ (l : List ℕ). get_or l (k.first + count_of w a) 0) appended_numbers ∙ get_or-set_same w.numbers (k.first + count_of w a) n 0 h

  pub appended_other : (i : ℕ) → (i ≡ k.first + count_of w a → ⊥) → get_or (appended k w a n).numbers i 0 ≡ get_or w.numbers i 0
  appended_other i d = ap (λ (l : List ℕ). get_or l i 0) appended_numbers ∙ get_or-set_other w.numbers (k.first + count_of w a) i n 0 d

-- Removed: the tables that are left.
module _ (k : Block) (sizes : List ℕ) (w : Rows) (a r : ℕ) where
  pub removed_numbers : (removed k sizes w a r).numbers ≡ set w.numbers (k.first + r) (number_in k w (last_of w a))
  unfolding removed
  removed_numbers = refl

  pub removed_counts : (removed k sizes w a r).counts ≡ set w.counts a (last_of w a)
  unfolding removed
  removed_counts = refl

  pub removed_bytes : (removed k sizes w a r).bytes ≡ carried w.bytes (line_in k (last_of w a)) (line_in k r) sizes
  unfolding removed
  removed_bytes = refl

  pub removed_length : length (removed k sizes w a r).bytes ≡ length w.bytes
  removed_length = ap (λ (l : List ℕ). length l) removed_bytes ∙ length_carried sizes w.bytes (line_in k (last_of w a)) (line_in k r)

  -- the row's number is the last row's, and every other place is as it was
  pub removed_number : k.first + r < length w.numbers → number_in k (removed k sizes w a r) r ≡ number_in k w (last_of w a)
  removed_number h = ap (λ (l : List ℕ). get_or l (k.first + r) 0) removed_numbers ∙ get_or-set_same w.numbers (k.first + r) (number_in k w (last_of w a)) 0 h

  pub removed_others : (i : ℕ) → (i ≡ k.first + r → ⊥) → get_or (removed k sizes w a r).numbers i 0 ≡ get_or w.numbers i 0
  removed_others i d = ap (λ (l : List ℕ). get_or l i 0) removed_numbers ∙ get_or-set_other w.numbers (k.first + r) i (number_in k w (last_of w a)) 0 d

  module _ (here : r < count_of w a) (used : count_of w a ≤ k.rows) where
    -- the row's cells hold what the last row's held
    pub removed_held : k.base + k.rows * width sizes ≤ length w.bytes → (j : ℕ) → j < length sizes
        → held_in k sizes (removed k sizes w a r).bytes r j ≡ held_in k sizes w.bytes (last_of w a) j
    unfolding held_in
    removed_held h j l =
        ap (λ (b : List ℕ). cell b (cell_at (line_in k r) sizes j) (get_or sizes j 0)) removed_bytes
        ∙ ⊎_elim
        (λ (e : r ≡ last_of w a). rw (e, carried_self))
        (λ (d : r ≡ last_of w a → ⊥).
        carried_there sizes w.bytes (line_in k (last_of w a)) (line_in k r)
        (within_block sizes k.base k.rows (last_of w a) (length w.bytes) (omega arith) h)
        (within_block sizes k.base k.rows r (length w.bytes) (omega arith) h)
        (ahead_rows sizes k.base k.rows (last_of w a) r (omega arith) (omega arith) (λ e. d (sym e)))
        (parted_block sizes k.base k.rows r (omega arith)) j l)
        (same_or_not r (last_of w a))

    -- every other row's are as they were
    pub removed_kept : (q j : ℕ) → q < k.rows → (q ≡ r → ⊥) → j < length sizes
        → held_in k sizes (removed k sizes w a r).bytes q j ≡ held_in k sizes w.bytes q j
    unfolding held_in
    removed_kept q j h d l =
        ap (λ (b : List ℕ). cell b (cell_at (line_in k q) sizes j) (get_or sizes j 0)) removed_bytes
        ∙ carried_apart sizes w.bytes (line_in k (last_of w a)) (line_in k r) (cell_at (line_in k q) sizes j) (get_or sizes j 0)
        (λ i m. rows_apart sizes k.base k.rows q r j i h (omega arith) d l m)

    -- and so is what lies outside the archetype's bytes
    pub removed_outside : (o m : ℕ) → Apart o m k.base (k.rows * width sizes) → cell (removed k sizes w a r).bytes o m ≡ cell w.bytes o m
    removed_outside o m d =
        ap (λ (b : List ℕ). cell b o m) removed_bytes
        ∙ carried_apart sizes w.bytes (line_in k (last_of w a)) (line_in k r) o m
        (λ i l. ⊎_elim (λ (e : o + m ≤ k.base). inl (omega (arith, block_starts sizes k.base k.rows r i)))
        (λ (e : k.base + k.rows * width sizes ≤ o). inr (omega (arith, block_ends sizes k.base k.rows r i (omega arith) l))) d)

    -- where there is such a row, the function does this
    pub row_removed_lem : row_removed k sizes w a r ≡ (moved_by k w a r, removed k sizes w a r)
    unfolding row_removed
    row_removed_lem = rw (lt-ltb r (count_of w a) here)

-- the number that a removal moves
module _ (k : Block) (w : Rows) (a r : ℕ) where
  pub moved_none : eqb r (last_of w a) ≡ true → moved_by k w a r ≡ none
  unfolding moved_by
  moved_none e = rw e

  pub moved_some : eqb r (last_of w a) ≡ false → moved_by k w a r ≡ some (number_in k w (last_of w a))
  unfolding moved_by
  moved_some e = rw e
