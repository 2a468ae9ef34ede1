-- `store_tables::StoreTables::lent_tested` meets its contract: the lengths of the id tables, then the words', then the value's.
use mathlib.Core.Path.{sym}
use Rattle.refusal.specs.Laws.{handed_up}
use Rattle.store_tables.proofs.Entering.{lengths_wrong, words_wrong, value_wrong, lent_right}
use Rattle.store_tables.proofs.StoreTables.lent_tested.Goals as goal

pub returns-in_err-lengths_tested : goal.returns-in_err-lengths_tested
returns-in_err-lengths_tested c = handed_up _ _ c.from_residual.ensures.1 (sym (lengths_wrong _ _ _ _ _ _ _ c.in_err-lengths_tested.ensures))

pub returns-then-self : goal.returns-then-self
returns-then-self c = sym (words_wrong _ _ _ _ _ _ _ c.in_ok-lengths_tested.ensures c.if-self.true)

pub returns-then-short : goal.returns-then-short
returns-then-short c = sym (value_wrong _ _ _ _ _ _ _ c.in_ok-lengths_tested.ensures c.if-self.false c.if-short.true)

pub returns : goal.returns
returns c = sym (lent_right _ _ _ _ _ _ _ c.in_ok-lengths_tested.ensures c.if-self.false c.if-short.false)
