-- The tests on types and sizes, as the code runs them, are the rules'.
-- Assumes nothing.
use Prim.{tt}
use Prim.Native.Nat.{ℕ, ◌≤◌, ◌<◌}
use mathlib.Core.Bool.{Bool, true, false, not}
use mathlib.Core.Path.{◌≡◌, refl, sym, ap, ◌∙◌}
use native.Mathlib.Omega.{arith}
use borrow.Author.Tests.{eq-eqb, ne_eqb, le-ltb}
use lib.ListN.{length}
use Rattle.refusal.specs.Table.{granted, refused, passing}
use Rattle.refusal.specs.Laws.{past, halted, parts}
use Rattle.decl.specs.Limits.{max_size}
use Rattle.decl.specs.Lists.{sum, first_of, rising, any_above, any_below, any_pair}
use Rattle.decl.specs.Decl.{Decl, archetypes, types_of, sizes_of}
use Rattle.decl.specs.Rules.{shape_rules, same_types, sizes_differ, column_rules, decl_rules}
use Rattle.decl.specs.Kept.{Shaped}
use Rattle.decl.specs.Steps.{clashing, falls, clash_at, Risen, Plain}
use Rattle.decl.proofs.Lists.{false_true, or_left, or_right, any_false, pair_at, pair_false, above_false, ne_same, first_all}
use Rattle.refusal.specs.Chain.{onward, through}
use Rattle.decl.proofs.Keeping.{all_twelve, test_at, decides, columns_all, shaped}
use Rattle.decl.proofs.Merge.{two_none}
use Rattle.decl.proofs.Pairs.{parts_agree}

module _ (d : Decl) where
  -- a refusal of the first tests is the declaration's
  pub shape_halts : {n : ℕ} → refused n ≡ passing (shape_rules d) → refused n ≡ passing (decl_rules d)
  unfolding decl_rules
  shape_halts e = sym (parts (shape_rules d) (column_rules d) _ ∙ halted (shape_rules d) _ e)

  module _ (e : granted tt ≡ passing (shape_rules d)) where
    shape_past : passing (decl_rules d) ≡ passing (column_rules d)
    unfolding decl_rules
    shape_past = parts (shape_rules d) (column_rules d) _ ∙ past (shape_rules d) _ e

    pub columns_lent : sum d.widths ≤ length d.types
    columns_lent = omega (arith, (shaped d e).types_long, columns_all d (shaped d e).widths_long)

    pub risen : any_below (length d.widths) (falls d.widths d.types) ≡ false → Risen d.widths d.types d.sizes
    risen h = record { whole = columns_lent; paired = (shaped d e).sizes_long ∙ sym (shaped d e).types_long; rises = h }

    falls_rule : any_below (archetypes d) (λ a. not (rising (types_of d a))) ≡ any_below (length d.widths) (falls d.widths d.types)
    unfolding types_of
    falls_rule = rw (shaped d e).widths_long

    -- no two clash: no two have the same types, and no type has two sizes
    clash_none : any_pair (length d.widths) (clash_at d.widths d.types d.sizes) ≡ false
        → (any_pair (archetypes d) (same_types d) ≡ false)
        × (any_pair (archetypes d) (sizes_differ d) ≡ false)
    unfolding clashing types_of sizes_of
    clash_none h =
        let at : (a b : ℕ) → a < b → b < archetypes d → clash_at d.widths d.types d.sizes a b ≡ false = pair_at _ _ (rw (shaped d e).widths_long at h) in
        (pair_false _ _ (λ a b l m. or_left _ (sizes_differ d a b) (at a b l m)), pair_false _ _ (λ a b l m. or_right (same_types d a b) _ (at a b l m)))

    clash_some : (s t : Bool) → any_pair (archetypes d) (same_types d) ≡ s
        → any_pair (archetypes d) (sizes_differ d) ≡ t
        → any_pair (length d.widths) (clash_at d.widths d.types d.sizes) ≡ true → refused 12 ≡ passing (column_rules d)
    unfolding column_rules all_twelve test_at clashing types_of sizes_of
    clash_some true t p q h = decides _ 2 refl p
    clash_some false true p q h = decides _ 3 refl q
    clash_some false false p q h =
        absurd (false_true (sym (rw (shaped d e).widths_long (pair_false _ _ (λ a b l m. rw (pair_at _ _ p a b l m) (pair_at _ _ q a b l m)))) ∙ h))

    pub size_refused : any_above max_size d.sizes ≡ true → refused 12 ≡ passing (decl_rules d)
    unfolding column_rules all_twelve test_at
    size_refused h = rw shape_past (decides (column_rules d) 0 refl h)

    pub fall_refused : any_below (length d.widths) (falls d.widths d.types) ≡ true → refused 12 ≡ passing (decl_rules d)
    unfolding column_rules all_twelve test_at
    fall_refused h = rw shape_past (decides (column_rules d) 1 refl (falls_rule ∙ h))

    pub clash_refused : any_pair (length d.widths) (clash_at d.widths d.types d.sizes) ≡ true → refused 12 ≡ passing (decl_rules d)
    clash_refused h = rw shape_past (clash_some _ _ refl refl h)

    pub all_passed : any_above max_size d.sizes ≡ false → any_below (length d.widths) (falls d.widths d.types) ≡ false
        → any_pair (length d.widths) (clash_at d.widths d.types d.sizes) ≡ false → granted tt ≡ passing (decl_rules d)
    unfolding column_rules
    all_passed p q h =
        rw shape_past
        (onward 12 _ p (onward 12 _ (falls_rule ∙ q) (onward 12 _ (clash_none h).0 (onward 12 _ (clash_none h).1 through))))

  -- a shape that is right passes
  pub shape_passes : Shaped d → granted tt ≡ passing (shape_rules d)
  unfolding shape_rules
  shape_passes g =
      onward 12 _ (ne_eqb (archetypes d) 0 (λ e. omega (arith, g.some)))
      (onward 12 _ (le-ltb _ _ g.few)
      (onward 12 _ (ap not (eq-eqb _ _ g.widths_long))
      (onward 12 _ (ap not (eq-eqb _ _ g.bare))
      (onward 12 _ (above_false _ _ (λ k h. g.widths_in k))
      (onward 12 _ (above_false _ _ (λ k h. g.rows_in k))
      (onward 12 _ (ap not (eq-eqb _ _ g.types_long))
      (onward 12 _ (ap not (eq-eqb _ _ g.sizes_long)) through)))))))

  -- and so do columns that are plain
  pub plain_passes : Shaped d → Plain d.widths d.types d.sizes (length d.widths) → granted tt ≡ passing (decl_rules d)
  unfolding clashing
  plain_passes g p =
      let whole : first_of d.widths (length d.widths) ≡ length d.types = first_all d.widths (length d.widths) (omega arith) ∙ sym (g.types_long ∙ columns_all d g.widths_long) in
      all_passed (shape_passes g) (above_false max_size d.sizes (λ k h. p.small k (omega (arith, g.types_long, g.sizes_long))))
      (any_false _ _ (λ a h. ap not (p.rises a h)))
      (pair_false _ _ (λ a b h m. rw (ne_same _ _ (p.differ a b h m)) (two_none _ _ _ _ (parts_agree _ _ _ _ p.one_size a b (omega arith) m))))
