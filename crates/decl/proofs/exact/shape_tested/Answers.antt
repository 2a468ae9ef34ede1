-- `decl::exact::shape_tested` meets its contract: a test that fails decides, since all have the number 12, and where none does each is passed.
use mathlib.Core.Bool.{not}
use mathlib.Core.Path.{refl, sym, ap, ◌∙◌}
use borrow.Author.Tests.{eq-eqb, ne_eqb, lt-ltb, le-ltb}
use Rattle.decl.specs.Rules.{shape_rules}
use Rattle.refusal.specs.Chain.{onward, through}
use Rattle.decl.proofs.Keeping.{all_twelve, test_at, decides, columns_all}
use Rattle.decl.proofs.exact.shape_tested.Goals as goal

pub returns-then-rows-eq0 : goal.returns-then-rows-eq0
unfolding shape_rules all_twelve test_at
returns-then-rows-eq0 c = decides _ 0 refl (eq-eqb _ _ c.if-rows-eq0.true)

pub returns-then-rows-gt-ARCHETYPES : goal.returns-then-rows-gt-ARCHETYPES
unfolding shape_rules all_twelve test_at
returns-then-rows-gt-ARCHETYPES c = decides _ 1 refl (lt-ltb _ _ c.if-rows-gt-ARCHETYPES.true)

pub returns-then-widths-rows : goal.returns-then-widths-rows
unfolding shape_rules all_twelve test_at
returns-then-widths-rows c = decides _ 2 refl (ap not (ne_eqb _ _ c.if-widths-rows.true))

pub returns-then-widths-ne0 : goal.returns-then-widths-ne0
unfolding shape_rules all_twelve test_at
returns-then-widths-ne0 c = decides _ 3 refl (ap not (ne_eqb _ _ c.if-widths-ne0.true))

pub returns-then-any_above : goal.returns-then-any_above
unfolding shape_rules all_twelve test_at
returns-then-any_above c = decides _ 4 refl (sym c.any_above.ensures ∙ c.if-any_above.true)

pub returns-then-any_above-2 : goal.returns-then-any_above-2
unfolding shape_rules all_twelve test_at
returns-then-any_above-2 c = decides _ 5 refl (sym c.any_above-2.ensures ∙ c.if-any_above-2.true)

pub returns-then-types-columns : goal.returns-then-types-columns
unfolding shape_rules all_twelve test_at
returns-then-types-columns c =
    decides _ 6 refl
    (ap not (ne_eqb _ _ (λ e. c.if-types-columns.true (e ∙ columns_all _ c.if-widths-rows.false ∙ sym c.total-columns.ensures.0))))

pub returns-then-sizes-columns : goal.returns-then-sizes-columns
unfolding shape_rules all_twelve test_at
returns-then-sizes-columns c =
    decides _ 7 refl
    (ap not (ne_eqb _ _ (λ e. c.if-sizes-columns.true (e ∙ columns_all _ c.if-widths-rows.false ∙ sym c.total-columns.ensures.0))))

pub returns : goal.returns
unfolding shape_rules
returns c =
    onward 12 _ (ne_eqb _ _ c.if-rows-eq0.false)
    (onward 12 _ (le-ltb _ _ c.if-rows-gt-ARCHETYPES.false)
    (onward 12 _ (ap not (eq-eqb _ _ c.if-widths-rows.false))
    (onward 12 _ (ap not (eq-eqb _ _ c.if-widths-ne0.false))
    (onward 12 _ (sym c.any_above.ensures ∙ c.if-any_above.false)
    (onward 12 _ (sym c.any_above-2.ensures ∙ c.if-any_above-2.false)
    (onward 12 _ (ap not (eq-eqb _ _ (c.if-types-columns.false ∙ c.total-columns.ensures.0 ∙ sym (columns_all _ c.if-widths-rows.false))))
    (onward 12 _ (ap not (eq-eqb _ _ (c.if-sizes-columns.false ∙ c.total-columns.ensures.0 ∙ sym (columns_all _ c.if-widths-rows.false)))) through)))))))
