-- `store_moves::gather_row` meets its contract: the parts of the sizes are the columns before and those after.
use Rattle.store_moves.proofs.Stepping.{gathers}
use Rattle.store_moves.proofs.steps.gather_row.Goals as goal

pub returns : goal.returns
returns c = gathers _ _ _ _ _ _ _ _ _ _ c.min-middle.ensures c.min-last.ensures _ c.past-rest.ensures _ c.join.ensures
