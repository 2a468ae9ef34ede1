-- `id_tables::IdTables::tested` meets its contract: the capacity's test, the lengths', the output's, then the head's.
use Rattle.std.proofs.Common.{sym, ◌∙◌}
use Rattle.refusal.specs.Laws.{handed_up}
use Rattle.id_tables.proofs.Entering.{too_many, not_long, is_short, at_head}
use Rattle.id_tables.proofs.tables.IdTables.tested.Goals as goal

pub returns-in_err-capacity_tested : goal.returns-in_err-capacity_tested
returns-in_err-capacity_tested c = handed_up _ _ c.from_residual.ensures.1 (sym (too_many _ _ c.in_err-capacity_tested.ensures))

pub returns-in_err-lengths_tested : goal.returns-in_err-lengths_tested
returns-in_err-lengths_tested c = handed_up _ _ c.from_residual-in_err-lengths_tested.ensures.1 (sym (not_long _ _ c.in_ok-capacity_tested.ensures c.in_err-lengths_tested.ensures))

pub returns-then-short : goal.returns-then-short
returns-then-short c = sym (is_short _ _ c.in_ok-capacity_tested.ensures c.in_ok-lengths_tested.ensures c.if-short.true)

pub returns : goal.returns
returns c = c.head_tested.ensures ∙ sym (at_head _ _ c.in_ok-capacity_tested.ensures c.in_ok-lengths_tested.ensures c.if-short.false)
