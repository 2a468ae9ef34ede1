-- `exports_ids::numbers::verdict_ids_clear` meets its contract: the call's promise, crossed.
use Rattle.id_tables.proofs.Heads.{cleared_head}
use Rattle.crossing.proofs.Headed.{passed_headed}
use Rattle.exports_ids.proofs.numbers.verdict_ids_clear.Goals as goal

pub returns : goal.returns
returns c = passed_headed (cleared_head _) (rw c.lent-ids.ensures at c.clear-answer.ensures) c.put_head.ensures c.code.ensures
