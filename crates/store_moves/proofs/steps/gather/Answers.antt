-- `store_moves::gather` meets its contract: the row's line and the archetype's sizes.
use Rattle.store_moves.proofs.steps.gather.Goals as goal

pub returns : goal.returns
returns c = rw (← c.at.ensures, ← c.part_of-own.ensures) c.gather_row.ensures
