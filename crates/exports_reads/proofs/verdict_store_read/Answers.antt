-- `exports_reads::verdict_store_read` meets its contract.
use Rattle.crossing.proofs.Telling.{retold}
use Rattle.exports_reads.proofs.verdict_store_read.Goals as goal

pub returns : goal.returns
returns c = rw (← c.head_of.ensures) (retold c.read.ensures c.cross.ensures)
