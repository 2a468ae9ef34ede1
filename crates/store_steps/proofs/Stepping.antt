-- The ways through an archetype's part of a table and through the two steps, over plain values.
-- Assumes nothing.
use Prim.Native.Nat.{ℕ, ◌+◌, ◌-◌, ◌<◌, ◌≤◌}
use Rattle.std.specs.Prelude.{min}
use mathlib.Core.Path.{◌≡◌, refl, sym, ap, ◌∙◌}
use mathlib.Core.List.{List}
use lib.ListN.{length, get_or, set, take, drop}
use Rattle.std.proofs.lemmas.List.{take_min, drop_min, take_rest}
use borrow.Author.Tests.{lt-ltb, le-ltb}
use Rattle.std.specs.Prelude.{Option, Some, None}
use Rattle.handle.specs.declared.Number.{Number}
use Rattle.decl.specs.declared.Span.{Span}
use Rattle.cells.specs.Line.{run_line, transferred}
use Rattle.row_step.specs.declared.Block.{Block}
use Rattle.row_step.specs.Tables.{Rows, tables_of, moved_of, line_in, row_removed}
use Rattle.row_step.proofs.Held.{appended_numbers, appended_counts, appended_bytes}
use Rattle.store_steps.specs.Parts.{part_by}
use Rattle.store_steps.specs.Seats.{Seats, seats_of, vacated_seats, filled, seated_rows}

-- from the first column on, as many as there are
pub part_cut : (table : List ℕ) (span : Span) (from count : ℕ) → from ≡ min span.column (length table)
    → count ≡ min span.columns (length (take (length table - from) (drop from table))) → take count (take (length table - from) (drop from table)) ≡ part_by table span
unfolding part_by
part_cut table span from count p q =
    rw (q, take_min span.columns (take (length table - from) (drop from table)), take_rest table from, p, drop_min span.column table) refl

module _ (k : Block) (sizes : List ℕ) (t : Seats) (a r : ℕ) (moved : Option Number) (w : Rows) (e : (moved_of moved, w) ≡ row_removed k sizes t.rows a r) where
  pub nothing_moved : moved ≡ None → seats_of t.archetypes t.indices w ≡ vacated_seats k sizes t a r
  unfolding vacated_seats
  nothing_moved p = rw (← e, p)

  pub one_moved : (n : Number) (archetypes indices : List ℕ) → moved ≡ Some n
      → (archetypes ≡ set t.archetypes n.0 a) × (indices ≡ set t.indices n.0 r) → seats_of archetypes indices w ≡ vacated_seats k sizes t a r
  unfolding vacated_seats
  one_moved n archetypes indices p s = rw (← e, p, s.0, s.1)

same : (x y : Rows) → x.numbers ≡ y.numbers → x.counts ≡ y.counts → x.bytes ≡ y.bytes → x ≡ y
same x y p q b = λ i. record { numbers = p i; counts = q i; bytes = b i }

module _ (k : Block) (sizes : List ℕ) (w : Rows) (a n : ℕ) (run : List ℕ) (count : ℕ) (e : count ≡ get_or w.counts a 0) where
  pub none_unused : k.rows ≤ count → w ≡ seated_rows k sizes w a n run
  unfolding seated_rows
  none_unused h = rw (← e, le-ltb _ _ h)

  pub one_unused : (numbers counts bytes : List ℕ) → count < k.rows → bytes ≡ transferred run run_line w.bytes (line_in k count) sizes
      → numbers ≡ set w.numbers (k.first + count) n → counts ≡ set w.counts a (count + 1) → tables_of numbers counts bytes ≡ seated_rows k sizes w a n run
  unfolding seated_rows
  one_unused numbers counts bytes h b p q =
      rw (lt-ltb (get_or w.counts a 0) k.rows (rw e at h))
      (same _ _ (p ∙ (ap (λ (c : ℕ). set w.numbers (k.first + c) n) e ∙ sym (appended_numbers k rows a n)))
      (q ∙ (ap (λ (c : ℕ). set w.counts a (c + 1)) e ∙ sym (appended_counts k rows a n)))
      (b ∙ (ap (λ (c : ℕ). transferred run run_line w.bytes (line_in k c) sizes) e ∙ sym (appended_bytes k rows a n))))
    where
      rows : Rows
      rows = tables_of w.numbers w.counts (filled k sizes w a run)
