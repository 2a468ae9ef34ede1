-- The walk to an archetype: what is tested on the way, and what the archetypes before it and it itself take.
-- Assumes nothing.
use Prim.Native.Nat.{ℕ, suc, ◌+◌, ◌-◌, ◌*◌, ◌≤◌, ◌<◌}
use mathlib.Core.Bool.{true, false}
use mathlib.Core.Path.{◌≡◌, refl, sym}
use mathlib.Core.List.{List}
use native.Mathlib.Nat.{mul-le-mul}
use native.Mathlib.Numerals.{add-one}
use native.Mathlib.Omega.{arith}
use borrow.Author.Tests.{lt-ltb, le-ltb, ltb-false}
use lib.Dec.{ltb}
use lib.ListN.{length, get_or, take, drop, length-take}
use Rattle.std.specs.Prelude.{Option, Some, None}
use Rattle.refusal.specs.Table.{granted, refused, ◌or_else◌}
use Rattle.decl.specs.Limits.{max_archetypes, max_columns, max_rows}
use Rattle.decl.specs.Lists.{first_of, any_below}
use Rattle.decl.specs.Decl.{Decl, archetypes, rows_of, width_of, first_row, first_column}
use Rattle.decl.specs.Kept.{Shaped}
use Rattle.decl.specs.Places.{too_large, outgrown, row_width, base_of, span_of, spanned}
use Rattle.decl.specs.Steps.{PartAt, Parted}
use Rattle.decl.specs.declared.Part.{Part}
use Rattle.decl.proofs.Lists.{or_left, or_right, any_stop, any_false, any_more, part_in_sum}
use Rattle.decl.proofs.Keeping.{columns_all}
use Rattle.decl.proofs.Counting.{max_width, Counted, width_told, counted_end, counted_next}

-- what is tested of an archetype
module _ (n w first all : ℕ) where
  pub wide_refused : max_columns < w → too_large n w first all ≡ true
  unfolding too_large
  wide_refused h = rw (lt-ltb max_columns w h)

  pub long_refused : w ≤ max_columns → max_rows < n → too_large n w first all ≡ true
  unfolding too_large
  long_refused h k = rw (le-ltb max_columns w h, lt-ltb max_rows n k)

  pub past_refused : w ≤ max_columns → n ≤ max_rows → all < first + w → too_large n w first all ≡ true
  unfolding too_large
  past_refused h k l = rw (le-ltb max_columns w h, le-ltb max_rows n k, lt-ltb all (first + w) l)

  pub all_fit : w ≤ max_columns → n ≤ max_rows → first + w ≤ all → too_large n w first all ≡ false
  unfolding too_large
  all_fit h k l = rw (le-ltb max_columns w h, le-ltb max_rows n k, le-ltb all (first + w) l)

  pub fitting : too_large n w first all ≡ false → (w ≤ max_columns) × (n ≤ max_rows) × (first + w ≤ all)
  unfolding too_large
  fitting e =
      let rest = or_right (ltb max_columns w) _ e in
      (ltb-false max_columns w (or_left (ltb max_columns w) _ e), ltb-false max_rows n (or_left (ltb max_rows n) _ rest), ltb-false all (first + w) (or_right (ltb max_rows n) _ rest))

module _ (d : Decl) (a : ℕ) where
  pub span_place : archetypes d < a → refused 6 ≡ spanned d a
  unfolding spanned ◌or_else◌
  span_place h = rw (lt-ltb (archetypes d) a h)

  module _ (h : a ≤ archetypes d) where
    pub span_many : max_archetypes < a → refused 12 ≡ spanned d a
    unfolding spanned ◌or_else◌
    span_many k = rw (le-ltb (archetypes d) a h, lt-ltb max_archetypes a k)

    module _ (k : a ≤ max_archetypes) where
      pub span_grown : (b : ℕ) → b ≤ a → outgrown d b ≡ true → refused 12 ≡ spanned d a
      unfolding spanned ◌or_else◌
      span_grown b l e = rw (le-ltb (archetypes d) a h, le-ltb max_archetypes a k, any_stop (outgrown d) (suc a) b (omega arith) e)

      pub span_told : {row rows column columns base bytes : ℕ} → any_below (a + 1) (outgrown d) ≡ false → row ≡ first_row d a → rows ≡ rows_of d a → column ≡ first_of d.widths a
          → columns ≡ width_of d a → base ≡ base_of d a → bytes ≡ row_width d a
          → granted (record { row = row; rows = rows; column = column; columns = columns; base = base; bytes = bytes }) ≡ spanned d a
      unfolding spanned ◌or_else◌ first_column
      span_told e p q r s t u = rw (le-ltb (archetypes d) a h, le-ltb max_archetypes a k, rw add-one at e, p, q, r, s, t, u)

  -- of a declaration whose shape is right, the span is answered
  pub span_shaped : Shaped d → a ≤ archetypes d → spanned d a ≡ granted (span_of d a)
  unfolding first_column
  span_shaped g h =
      sym (span_told h (omega (arith, g.few)) (any_false (outgrown d) (a + 1) (λ b l. all_fit _ _ _ _ (g.widths_in b) (g.rows_in b) (fits b))) refl refl refl refl refl refl) where
        fits : (b : ℕ) → first_of d.widths b + width_of d b ≤ length d.sizes
        fits b = omega (arith, part_in_sum d.widths b, g.sizes_long, columns_all d g.widths_long)

-- a row of 32-bit sizes
pub part_bytes : (column w : ℕ) (sizes : List ℕ) {bytes : ℕ} → bytes ≤ 4294967295 * length (take (column + w - column) (drop column sizes)) → w ≤ max_columns → bytes ≤ max_width
part_bytes column w sizes h k = omega (arith, length-take (column + w - column) (drop column sizes))

-- The part of an archetype, once it has been taken apart.
module _ {rows widths sizes : List ℕ} {a column : ℕ} {r : Option Part} (p : Parted rows widths sizes a column r) where
  part_at : {p : Part} → r ≡ Some p → PartAt rows widths sizes a column p.rows p.columns p.bytes
  part_at e = rw e at p.told

  pub part_grown : r ≡ None → too_large (get_or rows a 0) (get_or widths a 0) column (length sizes) ≡ true
  part_grown e = rw e at p.told

  -- what it may be at most
  pub part_small : {p : Part} → r ≡ Some p → (p.rows ≤ max_rows) × (p.columns ≤ max_columns) × (p.rows * p.bytes ≤ max_rows * max_width)
  part_small {p} e =
      let q = part_at e in
      let f = fitting _ _ _ _ q.fits in
      let h : p.rows ≤ max_rows = omega (arith, q.rows_are, f.1) in
      (h, omega (arith, q.columns_are, f.0), mul-le-mul h q.bytes_in)

module _ (d : Decl) {row column base a : ℕ} (c : Counted d row column base a) {r : Option Part} (p : Parted d.rows d.widths d.sizes a column r) where
  own_first : column ≡ first_column d a
  unfolding first_column
  own_first = c.columns_passed

  pub own_grown : r ≡ None → outgrown d a ≡ true
  own_grown e = rw (← own_first) (part_grown p e)

  module _ {s : Part} (e : r ≡ Some s) where
    pub own_fits : any_below a (outgrown d) ≡ false → any_below (a + 1) (outgrown d) ≡ false
    own_fits h = any_more (outgrown d) a h (rw (← own_first) (part_at p e).fits)

    pub own_width : s.bytes ≡ row_width d a
    own_width = width_told d a column (column + s.columns) c.columns_passed (counted_end d c (part_at p e).columns_are) (part_at p e).bytes_are

    pub own_next : Counted d (row + s.rows) (column + s.columns) (base + s.rows * s.bytes) (a + 1)
    own_next =
        let q = part_at p e in
        counted_next d c q.rows_are q.columns_are (part_small p e).0 (part_small p e).1 own_width q.bytes_in

    -- the archetype that the walk leads to
    pub own_told : a ≤ archetypes d → a ≤ max_archetypes → any_below a (outgrown d) ≡ false
        → granted (record { row = row; rows = s.rows; column = column; columns = s.columns; base = base; bytes = s.bytes }) ≡ spanned d a
    own_told h k l =
        let q = part_at p e in
        span_told d a h k (own_fits l) c.rows_passed q.rows_are c.columns_passed q.columns_are c.bytes_passed own_width
