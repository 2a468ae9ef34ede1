-- `exports_columns::verdict_columns_put` meets its contract.
use Rattle.crossing.proofs.Telling.{passed}
use Rattle.exports_columns.proofs.verdict_columns_put.Goals as goal

pub returns : goal.returns
returns c = passed c.put.ensures c.code.ensures
