use mathlib.Core.Path.{sym, ◌∙◌}
use Rattle.cells.proofs.Lines.{past_more, past_all, next_fits}
use Rattle.cells.proofs.Line.past.Goals as goal

pub loop-size-preserved : goal.loop-size-preserved
loop-size-preserved c = (next_fits _ _ c.next-line.ensures, c.loop-size.invariant.1 ∙ past_more _ _ c.loop-size-test.true _ _ c.next-line.ensures)

pub returns : goal.returns
returns c = past_all _ _ c.loop-size-test.false _ c.loop-size.invariant.0 ∙ sym c.loop-size.invariant.1
