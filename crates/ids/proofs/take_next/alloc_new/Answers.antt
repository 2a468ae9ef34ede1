-- `ids::take_next::alloc_new` meets its contract: generation 1 and the place are written, and nothing else.
use Rattle.ids.proofs.Allocating.{new_did}
use Rattle.ids.proofs.take_next.alloc_new.Goals as goal

pub returns : goal.returns
returns c = new_did _ _ _ _ _ _ _ c.flushed.ensures c.settle.ensures c.new.ensures
