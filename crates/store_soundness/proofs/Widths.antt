-- Where columns begin in a row's run, with a column put in and with one taken out.
-- Assumes nothing.
use Prim.Native.Nat.{ℕ, zero, suc, ◌+◌, ◌-◌, ◌<◌, ◌≤◌}
use native.Mathlib.Omega.{arith}
use native.Mathlib.Nat.{eq-or-lt_of_le}
use mathlib.Core.Path.{◌≡◌, sym, ap, ◌∙◌}
use mathlib.Core.Logic.{⊎_elim}
use mathlib.Core.List.{List, [], ◌∷◌}
use lib.ListN.{length, get_or, take}
use Rattle.cells.specs.Line.{width}
use Rattle.cells.proofs.Blocks.{width_none, width_next}
use Rattle.store_moves.specs.Lists.{put_in, taken_out}
use Rattle.store_moves.proofs.Splicing.{length_put_in, length_out, out_before, out_after, in_before, in_here, in_after}

-- x put in at p
module _ (p x : ℕ) (ns : List ℕ) (l : p ≤ length ns) where
  abbrev more : List ℕ
  more = put_in p (x ∷ []) ns

  long : length more ≡ length ns + 1
  long = length_put_in p (x ∷ []) ns

  pub put_before : (j : ℕ) → j < p → get_or (put_in p (x ∷ []) ns) j 0 ≡ get_or ns j 0
  put_before j h = in_before p (x ∷ []) ns l j h

  pub put_here : get_or (put_in p (x ∷ []) ns) p 0 ≡ x
  put_here = let z : p + 0 ≡ p = omega arith in rw z at (in_here p (x ∷ []) ns l 0 (omega arith))

  pub put_after : (j : ℕ) → p ≤ j → get_or (put_in p (x ∷ []) ns) (suc j) 0 ≡ get_or ns j 0
  put_after j h =
      let e : p + (1 + (j - p)) ≡ suc j = omega arith in
      let f : p + (j - p) ≡ j = omega arith in
      rw (e, f) at (in_after p (x ∷ []) ns l (j - p))

  pub wide_before : (j : ℕ) → j ≤ p → width (take j (put_in p (x ∷ []) ns)) ≡ width (take j ns)
  wide_before zero h = width_none more ∙ sym (width_none ns)
  wide_before (suc j) h = omega (arith, width_next more j (omega (arith, long)), width_next ns j (omega arith), wide_before j (omega arith), put_before j h)

  pub wide_after : (j : ℕ) → p ≤ j → j ≤ length ns → width (take (suc j) (put_in p (x ∷ []) ns)) ≡ width (take j ns) + x
  wide_after zero h k =
      let z : p ≡ 0 = omega arith in
      omega (arith, width_next more 0 (omega (arith, long)), width_none more, width_none ns, ap (λ (i : ℕ). get_or more i 0) (sym z) ∙ put_here)
  wide_after (suc j) h k =
      ⊎_elim
      (λ (e : p ≡ suc j). omega (arith, width_next more (suc j) (omega (arith, long)), ap (λ (i : ℕ). get_or more i 0) (sym e) ∙ put_here, wide_before (suc j) (omega arith)))
      (λ (b : p < suc j). omega (arith, width_next more (suc j) (omega (arith, long)), width_next ns j k, wide_after j (omega arith) (omega arith), put_after j (omega arith)))
      (eq-or-lt_of_le h)

-- the one at p taken out
module _ (p : ℕ) (ns : List ℕ) (l : p < length ns) where
  abbrev less : List ℕ
  less = taken_out p 1 ns

  short : length less + 1 ≡ length ns
  short = length_out p 1 ns (omega arith)

  pub left_before : (j : ℕ) → j < p → get_or (taken_out p 1 ns) j 0 ≡ get_or ns j 0
  left_before j h = out_before p 1 ns (omega arith) j h

  pub left_after : (j : ℕ) → p ≤ j → get_or (taken_out p 1 ns) j 0 ≡ get_or ns (suc j) 0
  left_after j h = let e : j + 1 ≡ suc j = omega arith in rw e at (out_after p 1 ns (omega arith) j h)

  pub thin_before : (j : ℕ) → j ≤ p → width (take j (taken_out p 1 ns)) ≡ width (take j ns)
  thin_before zero h = width_none less ∙ sym (width_none ns)
  thin_before (suc j) h = omega (arith, width_next less j (omega (arith, short)), width_next ns j (omega arith), thin_before j (omega arith), left_before j h)

  pub thin_after : (j : ℕ) → p ≤ j → j < length ns → width (take j (taken_out p 1 ns)) + get_or ns p 0 ≡ width (take (suc j) ns)
  thin_after zero h k =
      let z : p ≡ 0 = omega arith in
      rw z (omega (arith, width_next ns 0 k, width_none less, width_none ns))
  thin_after (suc j) h k =
      ⊎_elim
      (λ (e : p ≡ suc j). omega (arith, width_next ns (suc j) k, thin_before (suc j) (omega arith), ap (λ (i : ℕ). get_or ns i 0) e))
      (λ (b : p < suc j). omega (arith, width_next less j (omega (arith, short)), width_next ns (suc j) k, thin_after j (omega arith) (omega arith), left_after j (omega arith)))
      (eq-or-lt_of_le h)
