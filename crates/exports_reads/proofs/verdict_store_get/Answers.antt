-- `exports_reads::verdict_store_get` meets its contract.
use Rattle.crossing.proofs.Telling.{retold}
use Rattle.exports_reads.proofs.verdict_store_get.Goals as goal

pub returns : goal.returns
returns c = rw (← c.head_of.ensures) (retold c.get.ensures c.cross.ensures)
