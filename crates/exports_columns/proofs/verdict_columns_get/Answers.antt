-- `exports_columns::verdict_columns_get` meets its contract.
use Rattle.crossing.proofs.Telling.{retold}
use Rattle.exports_columns.proofs.verdict_columns_get.Goals as goal

pub returns : goal.returns
returns c = retold c.get.ensures c.cross.ensures
