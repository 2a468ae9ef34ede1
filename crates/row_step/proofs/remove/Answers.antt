-- `row_step::remove` meets its contract: no such row, the last row, or another, over which the last is copied.
use Rattle.std.proofs.Common.{arith}
use Rattle.std.proofs.lemmas.Grind.{common_steps}
use Rattle.row_step.proofs.Steps.{no_row, last_row, other_row}
use Rattle.row_step.proofs.remove.Goals as goal

pub returns-then-count-row : goal.returns-then-count-row
returns-then-count-row c = no_row _ _ _ _ _ _ _ _ (grind (arith, common_steps)) c.if-count-row.true

pub returns-then-eq : goal.returns-then-eq
returns-then-eq c = last_row _ _ _ _ _ _ _ _ (grind (arith, common_steps)) c.if-count-row.false c.if-eq.ensures

pub returns : goal.returns
returns c =
    other_row _ _ _ _ _ _ _ _ (grind (arith, common_steps)) c.if-count-row.false _ _ _ c.if-eq.ensures
    c.number_at-number.ensures c.set_number.ensures _ _ c.line.ensures c.line-2.ensures c.carry.ensures
