-- The two loops that store bytes: after i turns the first i are stored.
-- Assumes nothing.
use Prim.Native.Nat.{ℕ, suc, ◌+◌, ◌≤◌, ◌<◌}
use mathlib.Core.List.{List}
use mathlib.Core.Logic.{⊎_elim, inl, inr}
use mathlib.Core.Path.{◌≡◌, sym, ap, ◌∙◌}
use native.Mathlib.Numerals.{add-one}
use native.Mathlib.Omega.{arith}
use lib.ListN.{length, get_or, set, take}
use lib.Seq.{length-take-le, take-length, paste-zero, paste-suc}
use Rattle.cells.specs.Cell.{cell, put, Copies}
use Rattle.cells.proofs.Laws.{length_cell, get_d_cell, cell_put_apart}

-- b once the first i bytes of src are stored from `at` on
unfoldable pub stored : List ℕ → ℕ → List ℕ → ℕ → List ℕ
stored b at src i = put b at (take i src)

module _ (b : List ℕ) (at : ℕ) (src : List ℕ) where
  pub stored_none : b ≡ stored b at src 0
  unfolding stored put
  stored_none = paste-zero b at src

  pub stored_more : (x : List ℕ) (i : ℕ) → at + length src ≤ length b → i < length src → x ≡ stored b at src i
      → set x (at + i) (get_or src i 0) ≡ stored b at src (i + 1)
  unfolding stored put
  stored_more x i h k e = rw (e, add-one i, length-take-le i src (omega arith), length-take-le (suc i) src k) (paste-suc b at src i 0 (omega arith) k)

  pub stored_all : (x : List ℕ) (i : ℕ) → i ≡ length src → x ≡ stored b at src i → x ≡ put b at src
  unfolding stored
  stored_all x i l e = rw (e, l, take-length src)

module _ (b : List ℕ) (from to n : ℕ) (lies : Copies (length b) from to n) where
  -- the source is as it was
  source : (i : ℕ) → i < n → get_or (stored b to (cell b from n) i) (from + i) 0 ≡ get_or (cell b from n) i 0
  unfolding stored
  source i h =
      let g : length (take i (cell b from n)) ≡ i = length-take-le i (cell b from n) (rw (length_cell b from n lies.source) (omega arith)) in
      sym (get_d_cell (stored b to (cell b from n) i) from n i h)
      ∙ ap (λ (l : List ℕ). get_or l i 0)
      (cell_put_apart b to (take i (cell b from n)) (omega (arith, lies.target)) from n
      (⊎_elim (λ (k : from + n ≤ to). inl k) (λ (k : to + n ≤ from). inr (omega arith)) lies.apart))

  pub copy_more : (x : List ℕ) (i : ℕ) → i < n → x ≡ stored b to (cell b from n) i
      → set x (to + i) (get_or x (from + i) 0) ≡ stored b to (cell b from n) (i + 1)
  copy_more x i h e =
      let g = length_cell b from n lies.source in
      rw (ap (λ (l : List ℕ). get_or l (from + i) 0) e ∙ source i h)
      (stored_more b to (cell b from n) x i (rw g lies.target) (rw g h) e)

  pub copy_all : (x : List ℕ) (i : ℕ) → i ≡ n → x ≡ stored b to (cell b from n) i → x ≡ put b to (cell b from n)
  copy_all x i l e = stored_all b to (cell b from n) x i (l ∙ sym (length_cell b from n lies.source)) e
