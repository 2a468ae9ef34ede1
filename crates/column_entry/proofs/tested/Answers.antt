-- `column_entry::tested` meets its contract: the tables' tests, then the counts'.
use Rattle.column_entry.specs.Entry.{entry_rules}
use Rattle.refusal.specs.Laws.{handed_up}
use Rattle.refusal.specs.Chain.{stop, go}
use Rattle.column_entry.proofs.tested.Goals as goal

pub returns-in_err-tables_tested : goal.returns-in_err-tables_tested
unfolding entry_rules
returns-in_err-tables_tested c = handed_up _ _ c.from_residual.ensures.1 (stop _ _ c.in_err-tables_tested.ensures)

pub returns : goal.returns
unfolding entry_rules
returns c = go _ _ c.in_ok-tables_tested.ensures c.counts_tested.ensures
