-- `exports_ids::state_of` meets its contract.
use Rattle.exports_ids.proofs.Laws.{state_read}
use Rattle.exports_ids.proofs.walks.state_of.Goals as goal

pub returns : goal.returns
returns c = state_read _
