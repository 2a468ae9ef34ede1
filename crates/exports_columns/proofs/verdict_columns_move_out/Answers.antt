-- `exports_columns::verdict_columns_move_out` meets its contract.
use Rattle.crossing.proofs.Telling.{told_by, crossed}
use Rattle.exports_columns.proofs.Moved.{same_four}
use Rattle.exports_columns.proofs.verdict_columns_move_out.Goals as goal

pub returns : goal.returns
returns c = crossed c.move_out.ensures (told_by _ same_four _ c.cross.ensures)
