-- `ids::take_next::alloc_last` meets its contract: the number's place is written, and nothing else.
use Rattle.ids.proofs.Allocating.{last_did}
use Rattle.ids.proofs.take_next.alloc_last.Goals as goal

pub returns : goal.returns
returns c = last_did _ _ _ _ c.requires.undamaged c.at.ensures c.at-2.ensures _ _ _ _ c.flushed.ensures c.put_place.ensures c.new.ensures
