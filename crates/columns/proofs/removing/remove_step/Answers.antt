-- `columns::remove_step` meets its contract: the step over the archetype's own part of each table.
use Rattle.columns.proofs.Steps.{remove_told}
use Rattle.columns.proofs.removing.remove_step.Goals as goal

pub returns : goal.returns
returns c = remove_told _ _ _ _ c.requires _ _ c.part_of-part.ensures.block c.part_of-part.ensures.sizes c.remove.ensures
