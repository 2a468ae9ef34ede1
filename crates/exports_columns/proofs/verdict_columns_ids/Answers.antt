-- `exports_columns::verdict_columns_ids` meets its contract.
use Rattle.crossing.proofs.Telling.{retold}
use Rattle.exports_columns.proofs.verdict_columns_ids.Goals as goal

pub returns : goal.returns
returns c = retold c.ids.ensures c.cross.ensures
