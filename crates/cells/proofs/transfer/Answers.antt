use mathlib.Core.Path.{sym, ◌∙◌}
use native.Mathlib.Omega.{arith}
use Rattle.cells.proofs.Lines.{transfer_more, transfer_none}
use Rattle.cells.proofs.transfer.Goals as goal

pub loop-size-preserved : goal.loop-size-preserved
loop-size-preserved c = (
  c.write.auto.bytes ∙ c.loop-size.invariant.0,
  c.loop-size.invariant.1
      ∙ transfer_more _ _ c.loop-size-test.true _ _ _ _ _ _
      c.cell-in-loop-size.ensures c.cell.ensures
      c.next-source.ensures c.next-target.ensures _ _ _ (omega arith) (omega arith)
      (rw c.part.ensures at c.write.ensures),
)

pub returns : goal.returns
returns c = sym (c.loop-size.invariant.1 ∙ transfer_none _ _ c.loop-size-test.false _ _ _ _)
