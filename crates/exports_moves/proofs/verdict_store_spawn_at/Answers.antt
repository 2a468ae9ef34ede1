-- `exports_moves::verdict_store_spawn_at` meets its contract.
use Rattle.exports_store.proofs.Store.{passed_store}
use Rattle.exports_moves.proofs.verdict_store_spawn_at.Goals as goal

pub returns : goal.returns
returns c = rw (← c.head_of-left.ensures) (passed_store c.spawn_at-answer.ensures c.code.ensures c.put_head.ensures)
