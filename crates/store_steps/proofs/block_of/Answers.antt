-- `store_steps::block_of` meets its contract: the rows are read.
use Rattle.store_steps.specs.Parts.{block_by}
use Rattle.store_steps.proofs.block_of.Goals as goal

pub returns : goal.returns
unfolding block_by
returns c = rw c.at.ensures
