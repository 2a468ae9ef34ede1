use mathlib.Core.Path.{sym, ◌∙◌}
use native.Mathlib.Omega.{arith}
use Rattle.decl.specs.Lists.{any_pair}
use Rattle.decl.proofs.Lists.{any_none, any_more, any_stop, any_done, first_none, part_lent}
use Rattle.decl.proofs.exact.any_clash.Goals as goal

pub loop-b-init : goal.loop-b-init
loop-b-init c = (sym (first_none _), any_none _)

pub clash_before-requires : goal.clash_before-requires
clash_before-requires c = record { risen = c.requires; b_in_bounds = (omega arith, part_lent _ _ _ _ _ c.loop-b.invariant.0 c.end_of-end.ensures.0, part_lent _ _ _ _ _ c.loop-b.invariant.0 c.end_of-end.ensures.0) }

pub returns-then-clash_before : goal.returns-then-clash_before
unfolding any_pair
returns-then-clash_before c = sym (any_stop _ _ _ (omega arith) (sym c.clash_before.ensures ∙ c.if-clash_before.true))

pub loop-b-preserved : goal.loop-b-preserved
loop-b-preserved c = (
  c.end_of-end.ensures.0,
  any_more _ _ c.loop-b.invariant.1 (sym c.clash_before.ensures ∙ c.if-clash_before.false),
)

pub returns : goal.returns
unfolding any_pair
returns c = sym (any_done _ _ _ c.loop-b.invariant.1 (omega arith) (omega arith))
