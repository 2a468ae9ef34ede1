-- `columns::cell_of` meets its contract: the cell, found in the archetype's own types and sizes.
use Rattle.columns.proofs.Steps.{cell_of_told}
use Rattle.columns.proofs.finding.cell_of.Goals as goal

pub returns : goal.returns
returns c =
    cell_of_told _ _ _ _ c.requires.kept c.requires.archetype_in_bounds.0 c.requires.archetype_in_bounds.1 _ _ _
    c.part_of-part.ensures.block c.part_of-part.ensures.types c.part_of-part.ensures.sizes _ c.line.ensures c.find_cell.ensures
