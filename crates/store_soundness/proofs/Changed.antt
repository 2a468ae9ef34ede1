-- What the run of a row that moves holds, column by column: the value in its new column, and every other component as it was.
-- Assumes nothing.
use Prim.Native.Nat.{ℕ, suc, ◌+◌, ◌-◌, ◌<◌, ◌≤◌}
use native.Mathlib.Omega.{arith}
use mathlib.Core.Path.{◌≡◌, sym, ap, ◌∙◌}
use native.Mathlib.Nat.{eq-or-lt_of_le}
use mathlib.Core.Logic.{⊎_elim}
use mathlib.Core.List.{List, [], ◌∷◌}
use lib.ListN.{length, get_or, take}
use lib.Seq.{take-length, take_all}
use Rattle.decl.specs.Decl.{Decl, archetypes, rows_of, width_of, types_of, sizes_of, size_of}
use Rattle.decl.specs.Kept.{Declared}
use Rattle.decl.specs.Places.{row_width}
use Rattle.decl.proofs.Keeping.{sizes_length, types_length}
use Rattle.cells.specs.Cell.{cell}
use Rattle.cells.specs.Line.{width, row_bytes}
use Rattle.cells.proofs.Rows.{Within, length_row}
use Rattle.cells.proofs.Blocks.{within_block, width_take, width_all}
use Rattle.cells.proofs.Runs.{run_cell}
use Rattle.row_step.specs.Tables.{Rows, line_in}
use Rattle.column_entry.proofs.Widths.{row_wide, line_cell, block_in_lem}
use Rattle.column_entry.specs.Entry.{block_in}
use Rattle.column_entry.specs.Kept.{Ready}
use Rattle.columns.specs.Calls.{held_at}
use Rattle.columns.proofs.Cells.{held_is}
use Rattle.store_moves.specs.Lists.{put_in, taken_out}
use Rattle.store_moves.specs.Target.{types_before}
use Rattle.store_moves.specs.Moves.{run_with, run_without}
use Rattle.store_moves.proofs.Splicing.{length_put_in, length_out}
use Rattle.store_moves.proofs.Targets.{with_sizes, without_sizes, before_in}
use Rattle.store_moves.proofs.Standing.{run_with_lem, run_without_lem}
use Rattle.store_soundness.proofs.Spliced.{in_cell_before, in_cell_here, in_cell_after, out_cell_before, out_cell_after}
use Rattle.store_soundness.proofs.Widths.{put_before, put_after, wide_before, wide_after, left_before, left_after, thin_before, thin_after}

-- what comes first is no wider
grows : (ns : List ℕ) (i j : ℕ) → i ≤ j → i ≤ length ns → width (take i ns) ≤ width (take j ns)
grows ns i j h k =
    ⊎_elim (λ (e : i ≡ j). rw e (omega arith))
    (λ (l : i < j). ⊎_elim (λ (q : i ≡ length ns). rw (take_all i ns (omega arith), take_all j ns (omega arith)) (omega arith)) (λ (q : i < length ns). omega (arith, width_take ns i j l q)) (eq-or-lt_of_le k))
    (eq-or-lt_of_le h)

-- the row's own run
module _ (d : Decl) (w : Rows) (a r : ℕ) (ready : Ready d w) (here : a < archetypes d) (row : r < rows_of d a) where
  abbrev ns : List ℕ
  ns = sizes_of d a

  abbrev own : List ℕ
  own = row_bytes w.bytes (line_in (block_in d a) r) (sizes_of d a)

  declared : Declared d
  declared = ready.tabled.kept.declared

  within : Within (length w.bytes) (line_in (block_in d a) r) ns
  within = within_block ns _ _ r (length w.bytes) row (omega (arith, block_in_lem d a here, ready.tabled.bytes_long))

  own_long : length own ≡ width ns
  own_long = length_row ns w.bytes (line_in (block_in d a) r) within

  ns_long : length ns ≡ width_of d a
  ns_long = sizes_length d declared.shaped a

  own_cell : (c : ℕ) → c < width_of d a → cell own (width (take c ns)) (size_of d a c) ≡ held_at d w a r c
  own_cell c h =
      run_cell ns w.bytes (line_in (block_in d a) r) c within (omega (arith, ns_long))
      ∙ ap (λ (x : ℕ). cell w.bytes x (size_of d a c)) (line_cell d a r c (omega (arith, ns_long))) ∙ sym (held_is d w a r c)

  -- the columns before c end where c begins, and c ends in the row
  ends : (c : ℕ) → c < width_of d a → width (take c ns) + size_of d a c ≤ width ns
  ends c h = width_all ns c (omega (arith, ns_long))

  module _ (b : ℕ) (there : b < archetypes d) where
    -- with type t put in
    module _ (t : ℕ) (value : List ℕ) (e : types_of d b ≡ put_in (types_before t (types_of d a)) (t ∷ []) (types_of d a))
        (size : length value ≡ size_of d b (types_before t (types_of d a))) where
      abbrev at : ℕ
      at = types_before t (types_of d a)

      at_in : at ≤ length ns
      at_in = omega (arith, before_in t (types_of d a), types_length d declared.shaped a, ns_long)

      sizes_are : sizes_of d b ≡ put_in at (size_of d b at ∷ []) ns
      sizes_are = with_sizes d declared a b here there t at (before_in t (types_of d a)) e

      abbrev p : ℕ
      p = width (take at ns)

      p_in : p ≤ length own
      p_in = omega (arith, own_long, grows ns at (length ns) at_in at_in, ap width (take-length ns))

      run_is : run_with d w a r t value ≡ put_in p value own
      run_is = run_with_lem d w a r t value

      pub grown_long : length (run_with d w a r t value) ≡ row_width d b
      grown_long =
          ap length run_is ∙ length_put_in p value own
          ∙ (let x = wide_after at (size_of d b at) ns at_in (length ns) at_in (omega arith) in
          let y : width (take (suc (length ns)) (sizes_of d b)) ≡ width (sizes_of d b) = ap width (take_all (suc (length ns)) (sizes_of d b) (omega (arith, ap length sizes_are, length_put_in at (size_of d b at ∷ []) ns))) in
          omega (arith, own_long, size, rw (← sizes_are) at x, y, ap width (take-length ns), row_wide d b))

      pub grown_before : (c : ℕ) → c < types_before t (types_of d a) → cell (run_with d w a r t value) (width (take c (sizes_of d b))) (size_of d b c) ≡ held_at d w a r c
      grown_before c h =
          let s : size_of d b c ≡ size_of d a c = ap (λ (z : List ℕ). get_or z c 0) sizes_are ∙ put_before at (size_of d b at) ns at_in c h in
          let o : width (take c (sizes_of d b)) ≡ width (take c ns) = ap (λ (z : List ℕ). width (take c z)) sizes_are ∙ wide_before at (size_of d b at) ns at_in c (omega arith) in
          rw (run_is, o, s) (in_cell_before p value own p_in (width (take c ns)) (size_of d a c) (omega (arith, width_take ns c at h (omega (arith, at_in)))) ∙ own_cell c (omega (arith, ns_long, at_in)))

      pub grown_here : cell (run_with d w a r t value) (width (take (types_before t (types_of d a)) (sizes_of d b))) (size_of d b (types_before t (types_of d a))) ≡ value
      grown_here =
          let o : width (take at (sizes_of d b)) ≡ p = ap (λ (z : List ℕ). width (take at z)) sizes_are ∙ wide_before at (size_of d b at) ns at_in at (omega arith) in
          rw (run_is, o) (in_cell_here p value own p_in (size_of d b at) size)

      pub grown_after : (c : ℕ) → types_before t (types_of d a) ≤ c → c < width_of d a
          → cell (run_with d w a r t value) (width (take (suc c) (sizes_of d b))) (size_of d b (suc c)) ≡ held_at d w a r c
      grown_after c h k =
          let s : size_of d b (suc c) ≡ size_of d a c = ap (λ (z : List ℕ). get_or z (suc c) 0) sizes_are ∙ put_after at (size_of d b at) ns at_in c h in
          let o : width (take (suc c) (sizes_of d b)) ≡ width (take c ns) + length value =
          ap (λ (z : List ℕ). width (take (suc c) z)) sizes_are ∙ wide_after at (size_of d b at) ns at_in c h (omega (arith, ns_long)) ∙ ap (λ (x : ℕ). width (take c ns) + x) (sym size) in
          rw (run_is, o, s)
          (in_cell_after p value own p_in (width (take c ns)) (size_of d a c) (grows ns at c h at_in) (omega (arith, own_long, ends c k)) ∙ own_cell c k)

    -- with the type of column j taken out
    module _ (j : ℕ) (in_row : j < width_of d a) (e : types_of d b ≡ taken_out j 1 (types_of d a)) where
      j_in : j < length ns
      j_in = omega (arith, ns_long)

      left_are : sizes_of d b ≡ taken_out j 1 ns
      left_are = without_sizes d declared a b here there j in_row e

      abbrev q : ℕ
      q = width (take j ns)

      q_in : q + size_of d a j ≤ length own
      q_in = omega (arith, own_long, ends j in_row)

      left_is : run_without d w a r j ≡ taken_out q (size_of d a j) own
      left_is = run_without_lem d w a r j

      pub shrunk_long : length (run_without d w a r j) ≡ row_width d b
      shrunk_long =
          let x = thin_after j ns j_in (length ns - 1) (omega (arith, j_in)) (omega (arith, j_in)) in
          let z : suc (length ns - 1) ≡ length ns = omega (arith, j_in) in
          let y : width (take (length ns - 1) (sizes_of d b)) ≡ width (sizes_of d b) = ap width (take_all (length ns - 1) (sizes_of d b) (omega (arith, ap length left_are, length_out j 1 ns (omega (arith, j_in))))) in
          ap length left_is ∙ omega (arith, length_out q (size_of d a j) own q_in, own_long, rw (← left_are) at x, y, ap (λ (i : ℕ). width (take i ns)) z, ap width (take-length ns), row_wide d b)

      pub shrunk_before : (c : ℕ) → c < j → cell (run_without d w a r j) (width (take c (sizes_of d b))) (size_of d b c) ≡ held_at d w a r c
      shrunk_before c h =
          let s : size_of d b c ≡ size_of d a c = ap (λ (z : List ℕ). get_or z c 0) left_are ∙ left_before j ns j_in c h in
          let o : width (take c (sizes_of d b)) ≡ width (take c ns) = ap (λ (z : List ℕ). width (take c z)) left_are ∙ thin_before j ns j_in c (omega arith) in
          rw (left_is, o, s) (out_cell_before q (size_of d a j) own q_in (width (take c ns)) (size_of d a c) (width_take ns c j h (omega (arith, j_in))) ∙ own_cell c (omega arith))

      pub shrunk_after : (c : ℕ) → j ≤ c → suc c < width_of d a → cell (run_without d w a r j) (width (take c (sizes_of d b))) (size_of d b c) ≡ held_at d w a r (suc c)
      shrunk_after c h k =
          let s : size_of d b c ≡ size_of d a (suc c) = ap (λ (z : List ℕ). get_or z c 0) left_are ∙ left_after j ns j_in c h in
          let o : width (take c (sizes_of d b)) + size_of d a j ≡ width (take (suc c) ns) = ap (λ (z : List ℕ). width (take c z) + size_of d a j) left_are ∙ thin_after j ns j_in c h (omega (arith, ns_long)) in
          rw (left_is, s)
          (out_cell_after q (size_of d a j) own q_in (width (take c (sizes_of d b))) (size_of d a (suc c)) (omega (arith, o, width_take ns j (suc c) (omega arith) j_in)) (omega (arith, o, own_long, ends (suc c) k))
          ∙ ap (λ (x : ℕ). cell own x (size_of d a (suc c))) o ∙ own_cell (suc c) k)
