-- Cells of a run of bytes with something put in or taken out.
-- Assumes nothing.
use Prim.Native.Nat.{ℕ, ◌+◌, ◌-◌, ◌<◌, ◌≤◌}
use native.Mathlib.Omega.{arith}
use mathlib.Core.Path.{◌≡◌, sym, ◌∙◌}
use mathlib.Core.List.{List}
use lib.ListN.{length, get_or}
use lib.Seq.{ext_get_or}
use Rattle.cells.specs.Cell.{cell}
use Rattle.cells.proofs.Laws.{length_cell, get_d_cell}
use Rattle.store_moves.specs.Lists.{put_in, taken_out}
use Rattle.store_moves.proofs.Splicing.{length_put_in, length_out, out_before, out_after, in_before, in_here, in_after}

-- two cells that agree byte by byte
cells_same : (x y : List ℕ) (o q n : ℕ) → o + n ≤ length x → q + n ≤ length y → ((i : ℕ) → i < n → get_or x (o + i) 0 ≡ get_or y (q + i) 0) → cell x o n ≡ cell y q n
cells_same x y o q n a b h =
    ext_get_or 0 (cell x o n) (cell y q n) (length_cell x o n a ∙ sym (length_cell y q n b))
    (λ i l. let k : i < n = omega (arith, length_cell x o n a) in get_d_cell x o n i k ∙ h i k ∙ sym (get_d_cell y q n i k))

-- v put in at p
module _ (p : ℕ) (v x : List ℕ) (l : p ≤ length x) where
  pub in_cell_before : (o n : ℕ) → o + n ≤ p → cell (put_in p v x) o n ≡ cell x o n
  in_cell_before o n h =
      cells_same (put_in p v x) x o o n (omega (arith, length_put_in p v x)) (omega arith) (λ i k. in_before p v x l (o + i) (omega arith))

  pub in_cell_here : (n : ℕ) → length v ≡ n → cell (put_in p v x) p n ≡ v
  in_cell_here n e =
      ext_get_or 0 (cell (put_in p v x) p n) v (length_cell (put_in p v x) p n (omega (arith, length_put_in p v x)) ∙ sym e)
      (λ i h. let k : i < n = omega (arith, length_cell (put_in p v x) p n (omega (arith, length_put_in p v x))) in get_d_cell (put_in p v x) p n i k ∙ in_here p v x l i (omega arith))

  pub in_cell_after : (o n : ℕ) → p ≤ o → o + n ≤ length x → cell (put_in p v x) (o + length v) n ≡ cell x o n
  in_cell_after o n h k =
      cells_same (put_in p v x) x (o + length v) o n (omega (arith, length_put_in p v x)) k
      (λ i b.
      let e : o + length v + i ≡ p + (length v + (o - p + i)) = omega arith in
      let f : p + (o - p + i) ≡ o + i = omega arith in
      rw (e, ← f) (in_after p v x l (o - p + i)))

-- k bytes taken out at p
module _ (p k : ℕ) (x : List ℕ) (l : p + k ≤ length x) where
  pub out_cell_before : (o n : ℕ) → o + n ≤ p → cell (taken_out p k x) o n ≡ cell x o n
  out_cell_before o n h =
      cells_same (taken_out p k x) x o o n (omega (arith, length_out p k x l)) (omega arith) (λ i b. out_before p k x (omega arith) (o + i) (omega arith))

  pub out_cell_after : (o n : ℕ) → p ≤ o → o + k + n ≤ length x → cell (taken_out p k x) o n ≡ cell x (o + k) n
  out_cell_after o n h b =
      cells_same (taken_out p k x) x o (o + k) n (omega (arith, length_out p k x l)) b
      (λ i c. let e : o + k + i ≡ o + i + k = omega arith in rw e (out_after p k x (omega arith) (o + i) (omega arith)))
