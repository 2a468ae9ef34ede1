-- The store that a row has left: it passes the first tests still, and each archetype has as many rows as it had, but for the one that left.
-- Assumes nothing.
use Prim.Native.Nat.{ℕ, ◌-◌, ◌<◌, ◌≤◌}
use native.Mathlib.Omega.{arith}
use mathlib.Core.Path.{◌≡◌, refl, ◌∙◌}
use mathlib.Core.Bool.{Bool, true, false}
use lib.Dec.{eqb}
use lib.ListN.{length-set}
use lib.Seq.{get_or-set_same, get_or-set_other}
use borrow.Author.Tests.{eqb-true, eqb-false}
use Rattle.decl.specs.Decl.{archetypes, rows_of, sizes_of}
use Rattle.row_step.specs.Tables.{count_of, last_of}
use Rattle.row_step.proofs.Held.{removed_numbers, removed_counts, removed_length}
use Rattle.column_entry.specs.Entry.{block_in}
use Rattle.column_entry.specs.Kept.{Ready}
use Rattle.store_tables.specs.Store.{Store}
use Rattle.store_tables.specs.Rows.{moved_damaged, vacated}
use Rattle.store_tables.specs.Kept.{Entered}
use Rattle.store_tables.proofs.Vacating.{vacates, vacated_decl, vacated_rows, vacated_words}

module _ (s : Store) (a r : ℕ) (e : Entered s) (here : a < archetypes s.decl) where
  pub count_left : count_of (vacated s a r).rows a ≡ count_of s.rows a - 1
  count_left =
      rw (vacated_rows s a r, removed_counts (block_in s.decl a) (sizes_of s.decl a) s.rows a r)
      (get_or-set_same s.rows.counts a (last_of s.rows a) 0 (omega (arith, e.rows.tabled.counts_long)))

  pub count_kept : (b : ℕ) → (b ≡ a → ⊥) → count_of (vacated s a r).rows b ≡ count_of s.rows b
  count_kept b ne =
      rw (vacated_rows s a r, removed_counts (block_in s.decl a) (sizes_of s.decl a) s.rows a r)
      (get_or-set_other s.rows.counts a b (last_of s.rows a) 0 ne)

  counts_in : (b : ℕ) → count_of (vacated s a r).rows b ≤ rows_of s.decl b
  counts_in b = by (eqb b a) refl
    where
      by : (t : Bool) → eqb b a ≡ t → count_of (vacated s a r).rows b ≤ rows_of s.decl b
      by true t = rw (eqb-true b a t) (omega (arith, count_left, e.rows.counts_in a))
      by false t = omega (arith, count_kept b (eqb-false b a t), e.rows.counts_in b)

  rows_ready : Ready s.decl (vacated s a r).rows
  rows_ready =
      record {
        tabled =
            record {
              kept = e.rows.tabled.kept;
              numbers_long =
                  rw (vacated_rows s a r, removed_numbers (block_in s.decl a) (sizes_of s.decl a) s.rows a r, length-set) e.rows.tabled.numbers_long;
              counts_long =
                  rw (vacated_rows s a r, removed_counts (block_in s.decl a) (sizes_of s.decl a) s.rows a r, length-set) e.rows.tabled.counts_long;
              bytes_long =
                  rw (vacated_rows s a r) (removed_length (block_in s.decl a) (sizes_of s.decl a) s.rows a r ∙ e.rows.tabled.bytes_long);
            };
        counts_in = counts_in;
      }

  pub remains_entered : r < count_of s.rows a → moved_damaged s a r ≡ false → Entered (vacated s a r)
  remains_entered h d =
      record {
        ids = (vacates s a r e h d).ok;
        rows = rw (vacated_decl s a r) rows_ready;
        words_long = rw (vacated_decl s a r, vacated_words s a r) e.words_long;
      }
