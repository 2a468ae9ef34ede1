-- `columns::held_tested` meets its contract: the entry's tests, then the row's.
use Rattle.refusal.specs.Laws.{handed_up}
use Rattle.refusal.specs.Chain.{stop, go}
use Rattle.columns.specs.Calls.{held_rules}
use Rattle.columns.proofs.held_tested.Goals as goal

pub returns-in_err-tested : goal.returns-in_err-tested
unfolding held_rules
returns-in_err-tested c = handed_up _ _ c.from_residual.ensures.1 (stop _ _ c.in_err-tested.ensures)

pub returns : goal.returns
unfolding held_rules
returns c = go _ _ c.in_ok-tested.ensures c.row_tested.ensures
