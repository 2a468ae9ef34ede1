-- `store_moves::join` meets its contract: the columns before, the value, the columns after.
use Rattle.store_moves.proofs.Stepping.{joins}
use Rattle.store_moves.proofs.steps.join.Goals as goal

pub returns : goal.returns
returns c = joins _ _ _ _ _ _ _ _ _ c.past-gap.ensures _ c.transfer.ensures _ c.write.ensures _ c.next.ensures _ c.transfer-2.ensures
