-- `store_despawn::leave` meets its contract: the row has left, and the number is freed.
use Rattle.store_despawn.proofs.Ending.{left_by}
use Rattle.store_despawn.proofs.leave.Goals as goal

pub returns : goal.returns
returns c = left_by _ _ _ _ _ _ _ _ _ _ c.vacate.ensures c.free.ensures
