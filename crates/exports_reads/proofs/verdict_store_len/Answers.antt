-- `exports_reads::verdict_store_len` meets its contract.
use Rattle.crossing.proofs.Telling.{retold}
use Rattle.exports_reads.proofs.verdict_store_len.Goals as goal

pub returns : goal.returns
returns c = rw (← c.head_of.ensures) (retold c.len.ensures c.cross.ensures)
