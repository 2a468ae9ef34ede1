-- `exports_moves::verdict_store_insert` meets its contract.
use Rattle.crossing.proofs.Telling.{passed}
use Rattle.exports_moves.proofs.verdict_store_insert.Goals as goal

pub returns : goal.returns
returns c = rw (← c.head_of.ensures) (passed c.insert-answer.ensures c.code.ensures)
