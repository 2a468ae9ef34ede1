-- `exports_columns::verdict_columns_remove` meets its contract.
use Rattle.crossing.proofs.Telling.{told_by, crossed}
use Rattle.exports_columns.proofs.Moved.{same_four}
use Rattle.exports_columns.proofs.verdict_columns_remove.Goals as goal

pub returns : goal.returns
returns c = crossed c.remove.ensures (told_by _ same_four _ c.cross.ensures)
