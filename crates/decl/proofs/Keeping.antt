-- What a declaration that passes its tests keeps.
-- Assumes nothing.
use Prim.{tt}
use Prim.Native.Nat.{ℕ, zero, suc, ◌+◌, ◌-◌, ◌≤◌, ◌<◌}
use mathlib.Core.Bool.{Bool, true, false, not, ◌&&◌}
use mathlib.Core.Path.{◌≡◌, refl, sym, ap, ◌∙◌}
use mathlib.Core.Logic.{⊎_elim}
use mathlib.Core.List.{List, [], ◌∷◌}
use native.Mathlib.Nat.{eq-or-lt_of_le, not-suc-le-zero}
use native.Mathlib.Omega.{arith}
use borrow.Author.Tests.{eqb-true, eqb-false, ltb-false, not-false}
use lib.Dec.{eqb}
use lib.ListN.{length, get_or, take, drop, get_or-eq_default}
use Rattle.refusal.specs.Table.{Rule, ◌when◌, granted, refused, ◌or_else◌, passing}
use Rattle.refusal.specs.Laws.{passed, both}
use Rattle.decl.specs.Limits.{max_archetypes, max_columns, max_size, max_rows}
use Rattle.decl.specs.Lists.{sum, first_of, rising, any_above, any_below, any_pair}
use Rattle.decl.specs.Decl.{Decl, archetypes, width_of, columns, first_column, types_of, sizes_of, type_of, size_of}
use Rattle.decl.specs.Rules.{shape_rules, same_types, sizes_differ, column_rules, decl_rules}
use Rattle.decl.specs.Kept.{Shaped, Declared}
use Rattle.decl.proofs.Lists.{false_true, and_left, and_right, below_or_not, any_at, pair_at, above_at, rising_all, one_place, same_false, first_all, part_in_sum, part_length, part_at, part_in, part_lent, first_step, first_none, first_next}
use Rattle.decl.proofs.Merge.{two_false}

-- Rules that all have the number 12: any one of them that applies decides.
unfoldable pub all_twelve : List Rule → Bool
all_twelve [] = true
all_twelve (n when t ∷ rest) = eqb n 12 && all_twelve rest

unfoldable pub test_at : List Rule → ℕ → Bool
test_at [] k = false
test_at (n when t ∷ rest) zero = t
test_at (n when t ∷ rest) (suc k) = test_at rest k

pub decides : (rules : List Rule) (k : ℕ) → all_twelve rules ≡ true → test_at rules k ≡ true → refused 12 ≡ passing rules
unfolding all_twelve test_at ◌or_else◌
decides [] k a e = absurd (false_true e)
decides (n when true ∷ rest) k a e = ap refused (sym (eqb-true n 12 (and_left (eqb n 12) (all_twelve rest) a)))
decides (n when false ∷ rest) zero a e = absurd (false_true e)
decides (n when false ∷ rest) (suc k) a e = decides rest k (and_right (eqb n 12) (all_twelve rest) a) e

-- all the columns there are
pub columns_all : (d : Decl) → length d.widths ≡ archetypes d → columns d ≡ sum d.widths
unfolding first_column
columns_all d e = first_all d.widths (archetypes d) (omega arith)

module _ (d : Decl) where
  -- what the tests on lengths and counts give
  pub shaped : granted tt ≡ passing (shape_rules d) → Shaped d
  unfolding shape_rules
  shaped e =
      let p1 = passed 12 _ _ _ e in
      let p2 = passed 12 _ _ _ p1.1 in
      let p3 = passed 12 _ _ _ p2.1 in
      let p4 = passed 12 _ _ _ p3.1 in
      let p5 = passed 12 _ _ _ p4.1 in
      let p6 = passed 12 _ _ _ p5.1 in
      let p7 = passed 12 _ _ _ p6.1 in
      let p8 = passed 12 _ _ _ p7.1 in
      record {
        some = omega (arith, eqb-false (archetypes d) 0 p1.0);
        few = ltb-false max_archetypes (archetypes d) p2.0;
        widths_long = eqb-true (length d.widths) (archetypes d) (not-false _ p3.0);
        types_long = eqb-true (length d.types) (columns d) (not-false _ p7.0);
        sizes_long = eqb-true (length d.sizes) (columns d) (not-false _ p8.0);
        bare = eqb-true (width_of d 0) 0 (not-false _ p4.0);
        widths_in = above_at max_columns d.widths p5.0;
        rows_in = above_at max_rows d.rows p6.0;
      }

  -- an archetype's part of the types and of the sizes, as it is lent
  pub types_part : (a : ℕ) → take (first_column d a + width_of d a - first_column d a) (drop (first_column d a) d.types) ≡ types_of d a
  unfolding first_column types_of
  types_part a = part_lent d.widths d.types a _ _ refl (first_step d.widths a _ refl)

  pub sizes_part : (a : ℕ) → take (first_column d a + width_of d a - first_column d a) (drop (first_column d a) d.sizes) ≡ sizes_of d a
  unfolding first_column sizes_of
  sizes_part a = part_lent d.widths d.sizes a _ _ refl (first_step d.widths a _ refl)

  -- an archetype's types and sizes are as many as it has columns
  module _ (g : Shaped d) where
    ends_in : (a n : ℕ) → n ≡ columns d → first_of d.widths a + width_of d a ≤ n
    ends_in a n e = omega (arith, part_in_sum d.widths a, columns_all d g.widths_long)

    pub types_end : (a : ℕ) → first_column d a + width_of d a ≤ length d.types
    unfolding first_column
    types_end a = ends_in a (length d.types) g.types_long

    pub sizes_end : (a : ℕ) → first_column d a + width_of d a ≤ length d.sizes
    unfolding first_column
    sizes_end a = ends_in a (length d.sizes) g.sizes_long

    pub types_length : (a : ℕ) → length (types_of d a) ≡ width_of d a
    unfolding types_of
    types_length a = part_length d.widths d.types a (ends_in a (length d.types) g.types_long)

    pub sizes_length : (a : ℕ) → length (sizes_of d a) ≡ width_of d a
    unfolding sizes_of
    sizes_length a = part_length d.widths d.sizes a (ends_in a (length d.sizes) g.sizes_long)

    -- what each test on types and sizes gives
    all_rise : any_below (archetypes d) (λ a. not (rising (types_of d a))) ≡ false → (a : ℕ) → rising (types_of d a) ≡ true
    all_rise e a =
        ⊎_elim (λ h. not-false _ (any_at (λ k. not (rising (types_of d k))) (archetypes d) e a h))
        (λ (h : archetypes d ≤ a). rising_all (types_of d a) (λ k l. omega (arith, types_length a, get_or-eq_default d.widths 0 {n = a} (omega (arith, g.widths_long)))))
        (below_or_not a (archetypes d))

    sets_differ : any_pair (archetypes d) (same_types d) ≡ false
        → (a b : ℕ) → a < archetypes d → b < archetypes d → types_of d a ≡ types_of d b → a ≡ b
    sets_differ e a b h k q =
        ⊎_elim (λ l. absurd (same_false _ _ (pair_at (same_types d) (archetypes d) e a b l k) q))
        (λ l. ⊎_elim (λ m. sym m) (λ m. absurd (same_false _ _ (pair_at (same_types d) (archetypes d) e b a m h) (sym q))) (eq-or-lt_of_le l))
        (below_or_not a b)

    sizes_agree : any_pair (archetypes d) (sizes_differ d) ≡ false
        → (a b j k : ℕ) → a < b → b < archetypes d → j < width_of d a → k < width_of d b → type_of d a j ≡ type_of d b k → size_of d a j ≡ size_of d b k
    sizes_agree e a b j k l m h i q =
        two_false (types_of d a) (sizes_of d a) (types_of d b) (sizes_of d b)
        (pair_at (sizes_differ d) (archetypes d) e a b l m)
        j k (omega (arith, types_length a)) (omega (arith, types_length b)) q

    one_for_all : any_pair (archetypes d) (sizes_differ d) ≡ false → ((a : ℕ) → rising (types_of d a) ≡ true)
        → (a b j k : ℕ) → a < archetypes d → b < archetypes d → j < width_of d a → k < width_of d b → type_of d a j ≡ type_of d b k → size_of d a j ≡ size_of d b k
    one_for_all e r a b j k h i m n q =
        ⊎_elim (λ l. sizes_agree e a b j k l i m n q)
        (λ l. ⊎_elim
        (λ p. rw p (ap (λ (z : ℕ). size_of d a z) (one_place (types_of d a) (r a) j k (omega (arith, types_length a)) (omega (arith, types_length a, rw p at n)) (rw p at q))))
        (λ p. sym (sizes_agree e b a k j p h n m (sym q))) (eq-or-lt_of_le l))
        (below_or_not a b)

  sizes_small : any_above max_size d.sizes ≡ false → (a j : ℕ) → size_of d a j ≤ max_size
  unfolding sizes_of
  sizes_small e a j = part_in max_size d.widths d.sizes (above_at max_size d.sizes e) a j

  -- what all the tests give
  module _ (e : granted tt ≡ passing (decl_rules d)) where
    pub declared_shape : granted tt ≡ passing (shape_rules d)
    unfolding decl_rules
    declared_shape = (both (shape_rules d) (column_rules d) e).0

    declared_columns : granted tt ≡ passing (column_rules d)
    unfolding decl_rules
    declared_columns = (both (shape_rules d) (column_rules d) e).1

    pub declared : Declared d
    unfolding column_rules
    declared =
        let p1 = passed 12 _ _ _ declared_columns in
        let p2 = passed 12 _ _ _ p1.1 in
        let p3 = passed 12 _ _ _ p2.1 in
        let p4 = passed 12 _ _ _ p3.1 in
        let g = shaped declared_shape in
        record {
          shaped = g;
          sizes_in = sizes_small p1.0;
          rises = all_rise g p2.0;
          differ = sets_differ g p3.0;
          one_size = one_for_all g p4.0 (all_rise g p2.0);
        }

    -- enough to lend an archetype's part of the columns
    pub declared_room : (length d.widths ≡ archetypes d) × (archetypes d ≤ max_archetypes) × (sum d.widths ≤ length d.types) × (length d.sizes ≡ length d.types)
    declared_room =
        let g = shaped declared_shape in
        (g.widths_long, g.few, omega (arith, g.types_long, columns_all d g.widths_long), g.sizes_long ∙ sym g.types_long)

-- Columns by their place in the whole of types and sizes.
-- each place is a column of some archetype
column_at : (lengths : List ℕ) (n p : ℕ) → p < first_of lengths n → (b : ℕ) × (k : ℕ) × (b < n) × (k < get_or lengths b 0) × (p ≡ first_of lengths b + k)
column_at lengths zero p h = absurd (not-suc-le-zero (rw first_none at h))
column_at lengths (suc n) p h =
    ⊎_elim (λ l. let w = column_at lengths n p l in (w.0, w.1, omega (arith, w.2), w.3, w.4))
    (λ (l : first_of lengths n ≤ p). (n, p - first_of lengths n, omega arith, omega (arith, first_next lengths n), omega arith)) (below_or_not p (first_of lengths n))

module _ (d : Decl) (a j : ℕ) (h : j < width_of d a) where
  pub type_at : type_of d a j ≡ get_or d.types (first_column d a + j) 0
  unfolding types_of first_column
  type_at = part_at d.widths d.types a j h

  pub size_at : size_of d a j ≡ get_or d.sizes (first_column d a + j) 0
  unfolding sizes_of first_column
  size_at = part_at d.widths d.sizes a j h

pub one_size_at : (d : Decl) → Declared d → (p q : ℕ) → p < length d.types → q < length d.types → get_or d.types p 0 ≡ get_or d.types q 0
    → get_or d.sizes p 0 ≡ get_or d.sizes q 0
unfolding first_column
one_size_at d k p q h i e =
    let v = column_at d.widths (archetypes d) p (omega (arith, k.shaped.types_long)) in
    let w = column_at d.widths (archetypes d) q (omega (arith, k.shaped.types_long)) in
    let one = k.one_size v.0 w.0 v.1 w.1 v.2 w.2 v.3 w.3
    (type_at d v.0 v.1 v.3 ∙ sym (ap (λ (z : ℕ). get_or d.types z 0) v.4) ∙ e ∙ ap (λ (z : ℕ). get_or d.types z 0) w.4 ∙ sym (type_at d w.0 w.1 w.3)) in
    ap (λ (z : ℕ). get_or d.sizes z 0) v.4 ∙ sym (size_at d v.0 v.1 v.3) ∙ one ∙ size_at d w.0 w.1 w.3 ∙ sym (ap (λ (z : ℕ). get_or d.sizes z 0) w.4)
