use mathlib.Core.Path.{sym, ◌∙◌}
use native.Mathlib.Omega.{arith}
use Rattle.decl.proofs.Lists.{any_none, any_more, any_stop, first_none}
use Rattle.decl.proofs.Pairs.{clash_lent, clash_told}
use Rattle.decl.proofs.exact.clash_before.Goals as goal

pub loop-a-init : goal.loop-a-init
loop-a-init c = (sym (first_none _), any_none _)

pub clash-requires : goal.clash-requires
clash-requires c =
    clash_lent _ _ _ _ _ _ _ _ _ c.loop-a.invariant.0 c.end_of-end.ensures.0 c.requires.b_in_bounds.1 c.requires.b_in_bounds.2 c.requires.risen (omega arith) c.requires.b_in_bounds.0

pub returns-then-clash : goal.returns-then-clash
returns-then-clash c =
    sym (any_stop _ _ _ (omega arith)
    (clash_told _ _ _ _ _ _ _ _ _ c.loop-a.invariant.0 c.end_of-end.ensures.0 c.requires.b_in_bounds.1 c.requires.b_in_bounds.2 c.clash.ensures ∙ c.if-clash.true))

pub loop-a-preserved : goal.loop-a-preserved
loop-a-preserved c = (
  c.end_of-end.ensures.0,
  any_more _ _ c.loop-a.invariant.1
      (clash_told _ _ _ _ _ _ _ _ _ c.loop-a.invariant.0 c.end_of-end.ensures.0 c.requires.b_in_bounds.1 c.requires.b_in_bounds.2 c.clash.ensures ∙ c.if-clash.false),
)
