use mathlib.Core.Bool.{not}
use mathlib.Core.Path.{sym, ap, ◌∙◌}
use native.Mathlib.Omega.{arith}
use Rattle.decl.specs.Lists.{rising}
use Rattle.decl.proofs.Lists.{any_none, any_more, any_stop, first_none, part_told}
use Rattle.decl.proofs.exact.any_falls.Goals as goal

pub loop-a-init : goal.loop-a-init
loop-a-init c = (sym (first_none _), any_none _)

pub returns-then-not-is_rising : goal.returns-then-not-is_rising
returns-then-not-is_rising c =
    sym (any_stop _ _ _ (omega arith)
    (ap not (part_told _ _ _ rising _ _ c.loop-a.invariant.0 c.end_of-end.ensures.0 c.is_rising.ensures) ∙ (ap not c.if-not-is_rising.true)))

pub loop-a-preserved : goal.loop-a-preserved
loop-a-preserved c = (
  c.end_of-end.ensures.0,
  any_more _ _ c.loop-a.invariant.1
      (ap not (part_told _ _ _ rising _ _ c.loop-a.invariant.0 c.end_of-end.ensures.0 c.is_rising.ensures) ∙ (ap not c.if-not-is_rising.false)),
)
