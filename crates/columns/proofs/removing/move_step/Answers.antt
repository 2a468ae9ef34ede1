-- `columns::move_step` meets its contract: the row's bytes in column order.
use Rattle.columns.proofs.Steps.{move_told}
use Rattle.columns.proofs.removing.move_step.Goals as goal

pub returns : goal.returns
returns c =
    move_told _ _ _ _ _ _ c.requires.archetype_in_bounds.0 c.requires.archetype_in_bounds.1 c.requires.archetype_in_bounds.2 c.requires.archetype_in_bounds.3
    _ _ c.part_of-part.ensures.block c.part_of-part.ensures.sizes _ c.line-line.ensures c.transfer.ensures
