-- A number takes the first unused row of an archetype: rows and places are in step for it too.
-- Assumes nothing.
use Prim.Native.Nat.{ℕ, ◌+◌, ◌<◌}
use native.Mathlib.Omega.{arith}
use mathlib.Core.Path.{◌≡◌, sym, ◌∙◌}
use mathlib.Core.Logic.{◌⊎◌, inl, inr, ⊎_elim}
use mathlib.Core.List.{List}
use Rattle.handle.specs.Bits.{place_of}
use Rattle.id_tables.specs.Ids.{Ids, place_at}
use Rattle.decl.specs.Decl.{Decl, archetypes, rows_of, sizes_of}
use Rattle.cells.specs.Line.{run_line}
use Rattle.cells.proofs.Rows.{length_transferred}
use Rattle.row_step.specs.Tables.{Rows, tables_of, count_of, line_in}
use Rattle.column_entry.specs.Entry.{block_in}
use Rattle.column_entry.specs.Kept.{Ready}
use Rattle.columns.specs.Calls.{appended_to}
use Rattle.columns.proofs.Held.{appended_number, appended_others, appended_count, appended_counts_kept, appended_ready}
use Rattle.store_steps.specs.Seats.{filled, seated_rows}
use Rattle.store_steps.proofs.Laws.{seated_rows_lem}
use Rattle.store_soundness.proofs.Seated.{Seated, Joins, Among, joined_seated, seated_as}

module _ (d : Decl) (w : Rows) (a n : ℕ) (run : List ℕ) (ready : Ready d w) (declared : a < archetypes d) (room : count_of w a < rows_of d a) where
  -- the rows with the run's bytes, the number not yet in
  abbrev pub full : Rows
  full = tables_of w.numbers w.counts (filled (block_in d a) (sizes_of d a) w a run)

  abbrev taken : Rows
  taken = seated_rows (block_in d a) (sizes_of d a) w a n run

  pub full_ready : Ready d full
  full_ready =
      record {
        tabled = record {
          kept = ready.tabled.kept;
          numbers_long = ready.tabled.numbers_long;
          counts_long = ready.tabled.counts_long;
          bytes_long = length_transferred (sizes_of d a) run w.bytes run_line (line_in (block_in d a) (count_of w a)) ∙ ready.tabled.bytes_long;
        };
        counts_in = ready.counts_in;
      }

  pub taken_is : taken ≡ appended_to d full a n
  taken_is = seated_rows_lem (block_in d a) (sizes_of d a) w a n run room

  pub taken_ready : Ready d taken
  taken_ready = rw taken_is (appended_ready d full a n full_ready declared room)

  module _ (i j : Ids) (L : ℕ → Type 0) (s : Seated d w i L) (here : place_at j n ≡ place_of a (count_of w a)) (others : (m : ℕ) → L m → place_at j m ≡ place_at i m) where
    joins : Joins d w taken i j L a 1 (λ _. n)
    joins =
        rw taken_is
        (record {
          count_here = appended_count d full a n full_ready declared room;
          count_other = appended_counts_kept d full a n full_ready declared room;
          number_here_lem = λ x h. let e : count_of w a + x ≡ count_of w a = omega arith in rw e (appended_number d full a n full_ready declared room);
          number_other = λ b q hb hq. appended_others d full a n full_ready declared room b q (omega (arith, ready.counts_in b)) (λ e k. omega (arith, rw e at hq));
          place_here = λ x h. let e : count_of w a + x ≡ count_of w a = omega arith in rw e here;
          place_other = others;
        })

    pub taken_seated : Seated d taken j (λ (m : ℕ). L m ⊎ (m ≡ n))
    taken_seated =
        seated_as
        (λ m. ⊎_elim (λ (x : L m). inl x) (λ (x : Among 1 (λ _. n) m). inr (sym x.2)))
        (λ m. ⊎_elim (λ (x : L m). inl x) (λ (x : m ≡ n). inr (0, omega arith, sym x)))
        (joined_seated s declared joins)
