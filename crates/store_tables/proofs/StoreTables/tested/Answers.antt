-- `store_tables::StoreTables::tested` meets its contract: five runs of tests, in their order.
use mathlib.Core.Path.{sym, ◌∙◌}
use Rattle.refusal.specs.Laws.{handed_up}
use Rattle.store_tables.proofs.Entering.{at_capacity, at_tables, at_lent, at_head, at_counts}
use Rattle.store_tables.proofs.StoreTables.tested.Goals as goal

pub returns-in_err-capacity_tested : goal.returns-in_err-capacity_tested
returns-in_err-capacity_tested c = handed_up _ _ c.from_residual.ensures.1 (sym (at_capacity _ _ c.in_err-capacity_tested.ensures))

pub returns-in_err-tables_tested : goal.returns-in_err-tables_tested
returns-in_err-tables_tested c = handed_up _ _ c.from_residual-in_err-tables_tested.ensures.1 (sym (at_tables _ _ c.in_ok-capacity_tested.ensures c.in_err-tables_tested.ensures))

pub returns-in_err-lent_tested : goal.returns-in_err-lent_tested
returns-in_err-lent_tested c = handed_up _ _ c.from_residual-in_err-lent_tested.ensures.1 (sym (at_lent _ _ c.in_ok-capacity_tested.ensures c.in_ok-tables_tested.ensures c.in_err-lent_tested.ensures))

pub returns-in_err-head_tested : goal.returns-in_err-head_tested
returns-in_err-head_tested c = handed_up _ _ c.from_residual-in_err-head_tested.ensures.1 (sym (at_head _ _ c.in_ok-capacity_tested.ensures c.in_ok-tables_tested.ensures c.in_ok-lent_tested.ensures c.in_err-head_tested.ensures))

pub returns : goal.returns
returns c = c.counts_tested.ensures ∙ sym (at_counts _ _ c.in_ok-capacity_tested.ensures c.in_ok-tables_tested.ensures c.in_ok-lent_tested.ensures c.in_ok-head_tested.ensures)
