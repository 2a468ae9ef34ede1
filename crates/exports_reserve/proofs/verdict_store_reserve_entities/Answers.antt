-- `exports_reserve::verdict_store_reserve_entities` meets its contract.
use Rattle.store_reserve.proofs.Heads.{reserved_many_head}
use Rattle.exports_reserve.proofs.Headed.{passed_headed_out}
use Rattle.exports_reserve.proofs.verdict_store_reserve_entities.Goals as goal

pub returns : goal.returns
returns c = rw (← c.head_of.ensures) (passed_headed_out (reserved_many_head _ _ _) c.reserve_entities-answer.ensures c.put_head.ensures c.code.ensures)
