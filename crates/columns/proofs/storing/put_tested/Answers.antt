-- `columns::put_tested` meets its contract: the tables' tests, the value's, the counts' and the row's, in this order.
use Rattle.refusal.specs.Laws.{handed_up}
use Rattle.refusal.specs.Chain.{stop, go}
use Rattle.columns.specs.Calls.{put_rules}
use Rattle.columns.proofs.storing.put_tested.Goals as goal

pub returns-in_err-tables_tested : goal.returns-in_err-tables_tested
unfolding put_rules
returns-in_err-tables_tested c = handed_up _ _ c.from_residual.ensures.1 (stop _ _ (stop _ _ (stop _ _ c.in_err-tables_tested.ensures)))

pub returns-in_err-size_tested : goal.returns-in_err-size_tested
unfolding put_rules
returns-in_err-size_tested c =
    handed_up _ _ c.from_residual-in_err-size_tested.ensures.1 (stop _ _ (stop _ _ (go _ _ c.in_ok-tables_tested.ensures c.in_err-size_tested.ensures)))

pub returns-in_err-counts_tested : goal.returns-in_err-counts_tested
unfolding put_rules
returns-in_err-counts_tested c =
    handed_up _ _ c.from_residual-in_err-counts_tested.ensures.1
    (stop _ _ (go _ _ (go _ _ c.in_ok-tables_tested.ensures c.in_ok-size_tested.ensures) c.in_err-counts_tested.ensures))

pub returns : goal.returns
unfolding put_rules
returns c = go _ _ (go _ _ (go _ _ c.in_ok-tables_tested.ensures c.in_ok-size_tested.ensures) c.in_ok-counts_tested.ensures) c.row_tested.ensures
