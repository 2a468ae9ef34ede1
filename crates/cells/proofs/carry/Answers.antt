use mathlib.Core.Path.{sym, ◌∙◌}
use native.Mathlib.Omega.{arith}
use Rattle.cells.proofs.Lines.{carry_more, carry_none}
use Rattle.cells.proofs.carry.Goals as goal

pub loop-size-preserved : goal.loop-size-preserved
loop-size-preserved c = (
  c.copy.auto.bytes ∙ c.loop-size.invariant.0,
  c.loop-size.invariant.1
      ∙ carry_more _ _ c.loop-size-test.true _ _ _ _ _ _
      c.cell.ensures c.cell-in-loop-size.ensures
      c.next-source.ensures c.next-target.ensures _ _ (omega arith) c.copy.ensures,
)

pub returns : goal.returns
returns c = sym (c.loop-size.invariant.1 ∙ carry_none _ _ c.loop-size-test.false _ _ _)
