-- What the archetypes passed take, reckoned one by one, and the limits that keep the sums small.
-- Assumes nothing.
use Prim.Native.Nat.{ℕ, ◌+◌, ◌-◌, ◌*◌, ◌≤◌, ◌<◌}
use mathlib.Core.Path.{◌≡◌, refl, sym, ap, ◌∙◌}
use mathlib.Core.List.{List}
use mathlib.Core.Logic.{⊎_elim}
use native.Mathlib.Nat.{mul-le-mul}
use native.Mathlib.Omega.{arith}
use lib.ListN.{length, get_or, set, take, drop, get_or-eq_default}
use Rattle.std.specs.Prelude.{Some}
use Rattle.decl.specs.Limits.{max_archetypes, max_columns, max_rows}
use Rattle.decl.specs.Lists.{sum, first_of}
use Rattle.decl.specs.Decl.{Decl, archetypes, rows_of, width_of, first_row, sizes_of}
use Rattle.decl.specs.Places.{row_width, base_of}
use Rattle.decl.specs.Kept.{Shaped}
use Rattle.decl.specs.Steps.{Marked}
use Rattle.decl.specs.declared.quick.Mark.{Mark}
use Rattle.decl.proofs.Lists.{below_or_not, part_lent, first_none, first_step, first_all}
use Rattle.decl.proofs.Glancing.{last_or_before, Passing, passing_next, mark_small}
use Rattle.decl.proofs.Keeping.{columns_all}
use Rattle.decl.proofs.Placing.{base_next, row_next}

-- the most bytes a row of 32-bit sizes takes
abbrev pub max_width : ℕ
max_width = 4294967295 * max_columns

-- what a walk knows before archetype a
pub record Counted (d : Decl) (row column base a : ℕ) : Type 0 where
  pub narrow : (b : ℕ) → b < a → width_of d b ≤ max_columns
  pub low : (b : ℕ) → b < a → rows_of d b ≤ max_rows
  pub rows_passed : row ≡ first_row d a
  pub columns_passed : column ≡ first_of d.widths a
  pub bytes_passed : base ≡ base_of d a
  pub rows_small : row ≤ max_rows * a
  pub columns_small : column ≤ max_columns * a
  pub base_small : base ≤ max_rows * max_width * a

module _ (d : Decl) where
  pub counted_start : Counted d 0 0 0 0
  unfolding first_row base_of
  counted_start =
      record {
        narrow = λ b h. omega arith;
        low = λ b h. omega arith;
        rows_passed = sym (first_none d.rows);
        columns_passed = sym (first_none d.widths);
        bytes_passed = refl;
        rows_small = omega arith;
        columns_small = omega arith;
        base_small = omega arith;
      }

  -- a row's bytes, from the sizes that are lent
  pub width_told : (a column end : ℕ) {bytes : ℕ} → column ≡ first_of d.widths a → end ≡ first_of d.widths (a + 1) → bytes ≡ sum (take (end - column) (drop column d.sizes)) → bytes ≡ row_width d a
  unfolding row_width sizes_of
  width_told a column end p q e = e ∙ ap sum (part_lent d.widths d.sizes a column end p q)

  module _ {row column base a : ℕ} (r : Counted d row column base a) where
    -- the next archetype's columns begin where its own end
    pub counted_end : {w : ℕ} → w ≡ width_of d a → column + w ≡ first_of d.widths (a + 1)
    counted_end e = rw e (first_step d.widths a column r.columns_passed)

    pub counted_next : {n w bytes : ℕ} → n ≡ rows_of d a → w ≡ width_of d a → n ≤ max_rows → w ≤ max_columns → bytes ≡ row_width d a → bytes ≤ max_width
        → Counted d (row + n) (column + w) (base + n * bytes) (a + 1)
    counted_next p q h k e m =
        record {
          narrow = λ b l. ⊎_elim (λ z. rw z (rw (← q) k)) (λ z. r.narrow b z) (last_or_before b a l);
          low = λ b l. ⊎_elim (λ z. rw z (rw (← p) h)) (λ z. r.low b z) (last_or_before b a l);
          rows_passed = rw (r.rows_passed, p) (sym (row_next d a));
          columns_passed = counted_end q;
          bytes_passed = rw (r.bytes_passed, p, e) (sym (base_next d a));
          rows_small = omega (arith, r.rows_small);
          columns_small = omega (arith, r.columns_small);
          base_small = omega (arith, r.base_small, mul-le-mul h m);
        }

    pub counted_done : {b : ℕ} → a ≤ b → b ≤ a → Counted d row column base b
    counted_done {b} h k = let e : a ≡ b = omega arith in rw e at r

    -- past all archetypes, where they are few and have all the columns there are
    pub counted_shape : a ≡ archetypes d → 0 < archetypes d → archetypes d ≤ max_archetypes → length d.widths ≡ archetypes d → width_of d 0 ≡ 0
        → length d.types ≡ column → length d.sizes ≡ column → Shaped d
    counted_shape e some few long bare types sizes =
        let all = r.columns_passed ∙ first_all d.widths a (omega arith) ∙ sym (columns_all d long) in
        record {
          some = some;
          few = few;
          widths_long = long;
          types_long = types ∙ all;
          sizes_long = sizes ∙ all;
          bare = bare;
          widths_in = λ b. ⊎_elim (λ (h : b < a). r.narrow b h) (λ (h : a ≤ b). omega (arith, get_or-eq_default d.widths 0 {n = b} (omega arith))) (below_or_not b a);
          rows_in = λ b. ⊎_elim (λ (h : b < a). r.low b h) (λ (h : a ≤ b). omega (arith, get_or-eq_default d.rows 0 {n = b} (omega arith))) (below_or_not b a);
        }

    -- the same past an archetype that the quick look found orderly, and whose mark is new
    pub look_next : {seen sized seen' sized' marks : List ℕ} {m : Mark} → Passing d.widths d.types d.sizes seen sized marks column a
        → Marked d.types d.sizes seen' sized' column (column + width_of d a) (Some m) → rows_of d a ≤ max_rows → width_of d a ≤ max_columns → column + width_of d a ≤ length d.types → a < max_archetypes
        → ((b : ℕ) → b < a → get_or marks b 0 ≡ m.bits → ⊥)
        → Counted d (row + rows_of d a) (column + width_of d a) (base + rows_of d a * m.width) (a + 1)
        × Passing d.widths d.types d.sizes seen' sized' (set marks a m.bits) (column + width_of d a) (a + 1)
    look_next w q h k l i new =
        let o = q.told in (
          counted_next refl refl h k (width_told a column (column + width_of d a) r.columns_passed (counted_end refl) o.orderly.wide) (omega (arith, mark_small q (omega arith))),
          passing_next _ _ _ w r.columns_passed (counted_end refl) o (omega arith) l i new,
        )
