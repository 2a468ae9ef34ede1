-- `store_moves::move_row` meets its contract: the new row is taken, the old one leaves, the place is written.
use Rattle.store_moves.proofs.Stepping.{moves}
use Rattle.store_moves.proofs.steps.move_row.Goals as goal

pub returns : goal.returns
returns c = moves _ _ _ _ _ _ _ _ _ _ _ c.at.ensures _ c.seat.ensures _ _ _ c.vacate.ensures _ _ c.put_place.ensures
