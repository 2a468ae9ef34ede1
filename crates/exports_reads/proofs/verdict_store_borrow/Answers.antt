-- `exports_reads::verdict_store_borrow` meets its contract.
use Rattle.crossing.proofs.Telling.{passed}
use Rattle.exports_reads.proofs.verdict_store_borrow.Goals as goal

pub returns : goal.returns
returns c = rw (← c.head_of.ensures) (passed c.borrow-answer.ensures c.code.ensures)
