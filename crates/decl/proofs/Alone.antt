-- A declaration with one archetype beside the first: what its columns keep, no other has to be compared with.
-- Assumes nothing.
use Prim.Native.Nat.{ℕ, ◌+◌, ◌-◌, ◌*◌, ◌≤◌, ◌<◌}
use mathlib.Core.Bool.{true}
use mathlib.Core.Path.{◌≡◌, refl, sym, ap, ◌∙◌}
use mathlib.Core.Logic.{⊎_elim}
use mathlib.Core.List.{List, []}
use native.Mathlib.Omega.{arith}
use lib.ListN.{length, get_or}
use lib.Seq.{take_all}
use Rattle.std.specs.Prelude.{Some}
use Rattle.decl.specs.Limits.{max_columns, max_rows}
use Rattle.decl.specs.Lists.{sum, first_of, part_of, rising}
use Rattle.decl.specs.Decl.{Decl, archetypes, rows_of, width_of, first_row}
use Rattle.decl.specs.Places.{base_of}
use Rattle.decl.specs.Steps.{Orderly, Plain, Ordered, Settled}
use Rattle.decl.proofs.Lists.{rising_all, one_place, first_none, first_step, part_lent}
use Rattle.decl.proofs.Glancing.{last_or_before}
use Rattle.decl.proofs.Counting.{counted_start, counted_next, counted_shape, width_told}
use Rattle.decl.proofs.Measuring.{settled}

module _ (widths types sizes : List ℕ) (bare : get_or widths 0 0 ≡ 0) (own : length types ≡ get_or widths 1 0) where
  first_own : 0 ≡ first_of widths 1
  first_own = omega (arith, first_step widths 0 0 (sym (first_none widths)))

  first_both : length types ≡ first_of widths 2
  first_both = omega (arith, first_step widths 1 0 first_own)

  part_whole : (xs : List ℕ) → length xs ≡ length types → part_of widths xs 1 ≡ xs
  part_whole xs e = sym (part_lent widths xs 1 0 (length types) first_own first_both) ∙ take_all (length types - 0) xs (omega arith)

  part_none : part_of widths types 0 ≡ []
  unfolding part_of
  part_none = rw bare

  module _ (some : 0 < length types) {width : ℕ} (o : Orderly types sizes 0 (length types) width) where
    all_rise : rising types ≡ true
    all_rise = rising_all types (λ k h. o.rises k (omega arith) h)

    pub alone_plain : Plain widths types sizes 2
    unfolding rising
    alone_plain =
        record {
          small = λ k h. o.small k (omega arith) (omega (arith, first_both));
          rises = λ a h. ⊎_elim (λ e. rw e (rw (part_whole types refl) all_rise)) (λ (l : a < 1). let e : a ≡ 0 = omega arith in rw e (rw part_none)) (last_or_before a 1 h);
          differ = λ a b h k e. let p : a ≡ 0 = omega arith in let q : b ≡ 1 = omega arith in empty (sym part_none ∙ ap (part_of widths types) (sym p) ∙ e ∙ ap (part_of widths types) q ∙ part_whole types refl);
          one_size = λ p q h k e. ap (λ (z : ℕ). get_or sizes z 0) (one_place types all_rise p q (omega (arith, first_both)) (omega (arith, first_both)) e);
        } where
          empty : [] ≡ types → ⊥
          empty e = omega (arith, ap (λ (xs : List ℕ). length xs) e)

module _ (d : Decl) (many : archetypes d ≡ 2) (long : length d.widths ≡ 2) (bare : width_of d 0 ≡ 0) (paired : length d.sizes ≡ length d.types) (some : length d.types ≡ 0 → ⊥)
    (narrow : width_of d 1 ≤ max_columns) (own : length d.types ≡ width_of d 1) (low : rows_of d 0 ≤ max_rows) (low-own : rows_of d 1 ≤ max_rows) where
  pub alone_settles : {width : ℕ} → Ordered d.types d.sizes (Some width) → Settled d (Some (record { rows = rows_of d 0 + rows_of d 1; bytes = rows_of d 1 * width }))
  unfolding sum
  alone_settles {width} w =
      let o = w.told in
      let first = counted_next d (counted_start d) refl refl low (omega arith) (width_told d 0 0 0 (sym (first_none d.widths)) (first_own d.widths d.types d.sizes bare own) refl) (omega arith) in
      let both = counted_next d first refl refl low-own narrow (width_told d 1 0 (length d.types) (first_own d.widths d.types d.sizes bare own) (first_both d.widths d.types d.sizes bare own) o.wide) (omega (arith, o.narrow)) in
      settled d (counted_shape d both (sym many) (omega arith) (omega arith) (long ∙ sym many) bare (omega arith) (omega arith))
      (rw long (alone_plain d.widths d.types d.sizes bare own (omega arith) o))
      (omega (arith, both.rows_passed, ap (first_row d) many)) (omega (arith, both.bytes_passed, ap (base_of d) many))
