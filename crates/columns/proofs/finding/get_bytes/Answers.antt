-- `columns::get_bytes` meets its contract: the part that `get` answers, or none.
use Rattle.columns.proofs.Answers.{got_empty, got_part}
use Rattle.columns.proofs.finding.get_bytes.Goals as goal

pub returns-in_default : goal.returns-in_default
returns-in_default c = got_empty _ _ _ _ _ c.in_default.ensures

pub returns : goal.returns
returns c = got_part _ _ _ _ _ _ _ _ c.in-Ok.ensures c.part.ensures
