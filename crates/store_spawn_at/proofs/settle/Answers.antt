-- `store_spawn_at::settle` meets its contract: the number has its row, and the id layer grants it that.
use Rattle.store_spawn_at.proofs.Taking.{settles}
use Rattle.store_spawn_at.proofs.settle.Goals as goal

pub returns : goal.returns
returns c = settles _ _ _ _ _ _ _ _ _ _ _ _ _ _ _ _ c.reseat-place.ensures c.alloc_at.ensures
