-- `exports_columns::verdict_columns_lookup` meets its contract.
use Rattle.crossing.proofs.Telling.{retold}
use Rattle.exports_columns.proofs.verdict_columns_lookup.Goals as goal

pub returns : goal.returns
returns c = retold c.column_of.ensures c.cross.ensures
