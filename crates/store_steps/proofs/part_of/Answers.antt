-- `store_steps::part_of` meets its contract: what is cut off twice is what the span says.
use Rattle.store_steps.proofs.Stepping.{part_cut}
use Rattle.store_steps.proofs.part_of.Goals as goal

pub returns : goal.returns
returns c = part_cut _ _ _ _ c.min.ensures c.min-2.ensures
