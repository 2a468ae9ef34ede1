-- `exports_ids::put_state` meets its contract.
use Rattle.exports_ids.proofs.Laws.{state_back}
use Rattle.exports_ids.proofs.walks.put_state.Goals as goal

pub returns : goal.returns
returns c = state_back _
