-- `store_reads::contains` meets its contract: past the first tests, what the id layer says.
use mathlib.Core.Path.{sym, ◌∙◌}
use Rattle.refusal.specs.Laws.{past, halted, handed_up}
use Rattle.store_reads.specs.Lookup.{containing}
use Rattle.store_reads.proofs.lookups.contains.Goals as goal

pub returns-in_err-tested : goal.returns-in_err-tested
unfolding containing
returns-in_err-tested c = handed_up _ _ c.from_residual.ensures.1 (sym (halted _ _ c.in_err-tested.ensures))

pub returns : goal.returns
unfolding containing
returns c = c.contains.ensures ∙ sym (past _ _ c.in_ok-tested.ensures)
