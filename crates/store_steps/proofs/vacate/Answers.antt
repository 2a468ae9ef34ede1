-- `store_steps::vacate` meets its contract: a number was moved and its place written, or none was.
use Rattle.store_steps.proofs.Stepping.{nothing_moved, one_moved}
use Rattle.store_steps.proofs.vacate.Goals as goal

pub returns-in-Some : goal.returns-in-Some
returns-in-Some c = rw (← c.block_of-block.ensures, ← c.part_of-sizes.ensures) (one_moved _ _ _ _ _ _ _ c.remove-moved.ensures _ _ _ c.in-Some.is c.put_place.ensures)

pub returns-in_default : goal.returns-in_default
returns-in_default c = rw (← c.block_of-block.ensures, ← c.part_of-sizes.ensures) (nothing_moved _ _ _ _ _ _ _ c.remove-moved.ensures c.in_default.is)
