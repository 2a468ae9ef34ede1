-- `exports_moves::verdict_store_remove` meets its contract.
use Rattle.crossing.proofs.Telling.{passed}
use Rattle.exports_moves.proofs.verdict_store_remove.Goals as goal

pub returns : goal.returns
returns c = rw (← c.head_of.ensures) (passed c.remove-answer.ensures c.code.ensures)
