-- `store_steps::seat` meets its contract: no row is unused, or the first is filled and counted.
use Rattle.store_steps.proofs.Stepping.{none_unused, one_unused}
use Rattle.store_steps.proofs.seat.Goals as goal

pub returns-then-block-count : goal.returns-then-block-count
returns-then-block-count c = rw (← c.block_of-block.ensures, ← c.part_of-sizes.ensures) (none_unused _ _ _ _ _ _ _ c.at-count.ensures c.if-block-count.true)

pub returns : goal.returns
returns c = rw (← c.block_of-block.ensures, ← c.part_of-sizes.ensures) (one_unused _ _ _ _ _ _ _ c.at-count.ensures _ _ _ c.if-block-count.false c.transfer.ensures c.set_number.ensures c.put.ensures)
