-- `exports_reserve::verdict_store_freelist` meets its contract.
use Rattle.crossing.proofs.Telling.{crossed}
use Rattle.exports_reserve.proofs.verdict_store_freelist.Goals as goal

pub returns : goal.returns
returns c = rw (← c.head_of.ensures) (crossed c.freelist.ensures c.cross.ensures)
