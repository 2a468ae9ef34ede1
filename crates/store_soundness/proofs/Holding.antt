-- What rows hold for the numbers that a step does not name: the same bytes in every column, whichever row they stand in.
-- Assumes nothing.
use Prim.Native.Nat.{ℕ, ◌<◌}
use native.Mathlib.Omega.{arith}
use mathlib.Core.Path.{◌≡◌, sym, ap, ◌∙◌}
use mathlib.Core.Logic.{⊎_elim}
use mathlib.Core.List.{List}
use borrow.Author.Tests.{ne_eqb, eqb-false}
use native.Mathlib.Nat.{zero-add}
use lib.ListN.{length, take}
use lib.Seq.{take-length}
use Rattle.handle.specs.Bits.{place_of}
use Rattle.handle.specs.declared.Place.{Place}
use Rattle.id_tables.specs.Ids.{Ids, index_at, place_at}
use Rattle.decl.specs.Decl.{Decl, archetypes, rows_of, width_of, sizes_of, size_of}
use Rattle.decl.specs.Places.{row_width, cell_start}
use Rattle.decl.proofs.Keeping.{sizes_length}
use Rattle.cells.specs.Cell.{cell}
use Rattle.cells.specs.declared.Line.{Line}
use Rattle.cells.specs.Line.{cell_at, width, run_line, transferred}
use Rattle.cells.proofs.Rows.{Within, transferred_apart, cell_at_lem}
use Rattle.cells.proofs.Blocks.{width_take}
use Rattle.row_step.specs.Tables.{Rows, count_of, last_of, line_in}
use Rattle.row_step.proofs.Held.{same_or_not}
use Rattle.column_entry.proofs.Widths.{row_wide, line_cell}
use Rattle.column_entry.specs.Entry.{block_in}
use Rattle.column_entry.specs.Kept.{Ready}
use Rattle.columns.specs.Calls.{held_at, removed_from}
use Rattle.columns.proofs.Cells.{held_is}
use Rattle.columns.proofs.Moving.{Run, whole_from, transferred_to, transferred_held}
use Rattle.columns.proofs.Held.{cells_part, appended_held, removed_row, removed_kept}
use Rattle.store_steps.specs.Seats.{seated_rows}
use Rattle.store_tables.specs.Store.{Store}
use Rattle.store_tables.specs.Rows.{archetype_of, row_of, last_number, vacated}
use Rattle.soundness.specs.Sound.{Lives, Sound}
use Rattle.store_soundness.proofs.Seated.{archetype_at, Seat, archetype_is, row_is}
use Rattle.store_soundness.proofs.Bridge.{sound_entered, seat_of}
use Rattle.store_soundness.proofs.Leaving.{row_there, last_there, vacant}
use Rattle.store_soundness.proofs.Taking.{full, full_ready, taken_is}
use Rattle.store_soundness.proofs.Reading.{Same}

-- a place that has not changed, in rows that hold there what they held
pub same_there : {d : Decl} {i j : Ids} {w u : Rows} {m : ℕ} → place_at j m ≡ place_at i m
    → ((c : ℕ) → c < width_of d (archetype_at i m) → held_at d u (archetype_at i m) (index_at i m) c ≡ held_at d w (archetype_at i m) (index_at i m) c) → Same d i j w u m
same_there p h =
    record {
      archetype_same = ap (λ (x : Place). x.archetype) p;
      held_same = λ c b. rw (ap (λ (x : Place). x.index.0) p) (h c b);
    }

-- A row is taken: every row in use holds what it held.
module _ (d : Decl) (w : Rows) (a n : ℕ) (run : List ℕ) (ready : Ready d w) (declared : a < archetypes d) (room : count_of w a < rows_of d a) where
  abbrev taken : Rows
  taken = seated_rows (block_in d a) (sizes_of d a) w a n run

  pub taken_held : (b q c : ℕ) → q < rows_of d b → (b ≡ a → q ≡ count_of w a → ⊥) → held_at d taken b q c ≡ held_at d w b q c
  taken_held b q c h ne =
      rw (taken_is d w a n run ready declared room)
      (appended_held d (full d w a n run ready declared room) a n (full_ready d w a n run ready declared room) declared room b q c
      ∙ held_is d (full d w a n run ready declared room) b q c
      ∙ transferred_apart (sizes_of d a) run w.bytes run_line (line_in (block_in d a) (count_of w a)) (cell_start d b c q) (size_of d b c)
      (λ i l. rw (line_cell d a (count_of w a) i (omega arith)) (cells_part d b a q (count_of w a) c i h room (λ p _ k. ne p k)))
      ∙ sym (held_is d w b q c))

  pub taken_same : (i j : Ids) (m : ℕ) → Seat d w i m → place_at j m ≡ place_at i m → Same d i j w taken m
  taken_same i j m t p =
      same_there p
      (λ c b. taken_held (archetype_at i m) (index_at i m) c (omega (arith, t.row_in, ready.counts_in (archetype_at i m))) (λ e k. omega (arith, k, rw e at t.row_in)))

-- A row leaves: the number that falls into it, and every other but the one that left, hold what they held.
module _ {s : Store} (sound : Sound s) {n : ℕ} (l : Lives s.ids n) (j : Ids) where
  abbrev a : ℕ
  a = archetype_of s n

  abbrev r : ℕ
  r = row_of s n

  abbrev v : ℕ
  v = last_number s (archetype_of s n)

  abbrev gone : Rows
  gone = removed_from s.decl s.rows (archetype_of s n) (row_of s n)

  module _ (m : ℕ) (k : Lives s.ids m) (ne : m ≡ n → ⊥) (same : place_at j m ≡ place_at (vacated s (archetype_of s n) (row_of s n)).ids m) where
    moved_same : m ≡ v → (r ≡ last_of s.rows a → ⊥) → Same s.decl s.ids j s.rows gone m
    moved_same e d' =
        let p : place_at j m ≡ place_of a r = same ∙ rw e ((vacant sound l).moved_place (ne_eqb r (last_of s.rows a) d')) in
        let q : place_at s.ids m ≡ place_of a (last_of s.rows a) = rw e (last_there sound l) in
        record {
          archetype_same = archetype_is j m a r p ∙ sym (archetype_is s.ids m a (last_of s.rows a) q);
          held_same = λ c b.
              let b' : c < width_of s.decl a = rw (archetype_is s.ids m a (last_of s.rows a) q) at b in
              rw (archetype_is s.ids m a (last_of s.rows a) q, row_is j m a r p, row_is s.ids m a (last_of s.rows a) q)
              (removed_row s.decl s.rows a r (row_there sound l) c b');
        }

    stays_same : ((r ≡ last_of s.rows a → ⊥) → m ≡ v → ⊥) → Same s.decl s.ids j s.rows gone m
    stays_same nv =
        let t = seat_of sound m k in
        let o = seat_of sound n l in
        same_there (same ∙ (vacant sound l).other_place m (λ f. nv (eqb-false r (last_of s.rows a) f)))
        (λ c b. removed_kept s.decl s.rows a r (row_there sound l) (archetype_of s m) (row_of s m) c
        (omega (arith, t.row_in, (sound_entered sound).rows.counts_in (archetype_of s m)))
        (λ x y. ne (sym t.holds ∙ rw (x, y) o.holds)))

    pub vacant_same : Same s.decl s.ids j s.rows gone m
    vacant_same =
        ⊎_elim
        (λ (e : r ≡ last_of s.rows a). stays_same (λ d' _. d' e))
        (λ (d' : r ≡ last_of s.rows a → ⊥). ⊎_elim (λ (e : m ≡ v). moved_same e d') (λ (nv : m ≡ v → ⊥). stays_same (λ _. nv)) (same_or_not m v))
        (same_or_not r (last_of s.rows a))

-- one step after another
pub same_trans : {d : Decl} {i j k : Ids} {w u v : Rows} {m : ℕ} → Same d i j w u m → Same d j k u v m → Same d i k w v m
same_trans {d} {i} {j} {k} {w} {u} {v} {m} x y =
    record {
      archetype_same = y.archetype_same ∙ x.archetype_same;
      held_same = λ c b. (rw x.archetype_same at (y.held_same c (rw x.archetype_same b))) ∙ x.held_same c b;
    }

-- a run in column order: where each column's bytes are, and that they lie in it
run_place : (ns : List ℕ) (j : ℕ) → cell_at run_line ns j ≡ width (take j ns)
run_place ns j = cell_at_lem run_line ns j ∙ omega arith

run_within : (ns run : List ℕ) → length run ≡ width ns → Within (length run) run_line ns
run_within ns run e =
    record { each = λ j h. rw (run_place ns j, e) (omega (arith, width_take ns j (length ns) h h, ap width (take-length ns))) }

-- What the row that is taken holds: the run, in column order.
module _ (d : Decl) (w : Rows) (a n : ℕ) (run : List ℕ) (ready : Ready d w) (declared : a < archetypes d) (room : count_of w a < rows_of d a)
    (long : length run ≡ row_width d a) where
  run_all : Run d a 0 (sizes_of d a)
  run_all =
      record {
        declared = declared;
        fits = omega (arith, sizes_length d ready.tabled.kept.declared.shaped a);
        sizes = λ j h. ap (λ (x : ℕ). size_of d a x) (sym (zero-add j));
      }

  pub taken_run : (c : ℕ) → c < width_of d a
      → held_at d (seated_rows (block_in d a) (sizes_of d a) w a n run) a (count_of w a) c ≡ cell run (width (take c (sizes_of d a))) (size_of d a c)
  taken_run c h =
      let l : c < length (sizes_of d a) = omega (arith, sizes_length d ready.tabled.kept.declared.shaped a) in
      let f = full d w a n run ready declared room in
      rw (taken_is d w a n run ready declared room)
      (appended_held d f a n (full_ready d w a n run ready declared room) declared room a (count_of w a) c
      ∙ held_is d f a (count_of w a) c
      ∙ ap (λ (b : List ℕ). cell b (cell_start d a c (count_of w a)) (size_of d a c)) (ap (λ (x : Line). transferred run run_line w.bytes x (sizes_of d a)) (whole_from d a (count_of w a)))
      ∙ sym (held_is d (transferred_to d w ready.tabled (sizes_of d a) run run_line (run_within (sizes_of d a) run (long ∙ row_wide d a)) a 0 (count_of w a) run_all room) a (count_of w a) c)
      ∙ rw (zero-add c) at (transferred_held d w ready.tabled (sizes_of d a) run run_line (run_within (sizes_of d a) run (long ∙ row_wide d a)) a 0 (count_of w a) run_all room c l)
      ∙ ap (λ (x : ℕ). cell run x (size_of d a c)) (run_place (sizes_of d a) c))
