-- `exports_reserve::verdict_store_clear` meets its contract.
use Rattle.exports_store.proofs.Store.{passed_store}
use Rattle.exports_reserve.proofs.verdict_store_clear.Goals as goal

pub returns : goal.returns
returns c = rw (← c.head_of-left.ensures) (passed_store c.clear-answer.ensures c.code.ensures c.put_head.ensures)
