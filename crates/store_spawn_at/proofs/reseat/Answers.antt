-- `store_spawn_at::reseat` meets its contract: the old row has left, and the first unused row is taken.
use Rattle.store_spawn_at.proofs.Taking.{reseats}
use Rattle.store_spawn_at.proofs.reseat.Goals as goal

pub returns : goal.returns
returns c = reseats _ _ _ _ _ _ _ _ _ _ _ c.make_way.ensures c.at.ensures c.seat.ensures
