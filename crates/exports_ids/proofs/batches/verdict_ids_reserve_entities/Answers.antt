-- `exports_ids::batches::verdict_ids_reserve_entities` meets its contract: the call's promise, crossed.
use Rattle.id_batches.proofs.Heads.{reserved_head}
use Rattle.crossing.proofs.Headed.{passed_headed_out}
use Rattle.exports_ids.proofs.batches.verdict_ids_reserve_entities.Goals as goal

pub returns : goal.returns
returns c = passed_headed_out (reserved_head _ _ _) (rw c.lent-ids.ensures at c.reserve_entities-answer.ensures) c.put_head.ensures c.code.ensures
