-- `exports_store::verdict_store_despawn` meets its contract.
use Rattle.exports_store.proofs.Store.{passed_store}
use Rattle.exports_store.proofs.verdict_store_despawn.Goals as goal

pub returns : goal.returns
returns c = rw (← c.head_of-left.ensures) (passed_store c.despawn-answer.ensures c.code.ensures c.put_head.ensures)
