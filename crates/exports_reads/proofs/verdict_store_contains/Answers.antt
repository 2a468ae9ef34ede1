-- `exports_reads::verdict_store_contains` meets its contract.
use Rattle.crossing.proofs.Telling.{retold}
use Rattle.exports_reads.proofs.verdict_store_contains.Goals as goal

pub returns : goal.returns
returns c = rw (← c.head_of.ensures) (retold c.contains.ensures c.cross.ensures)
