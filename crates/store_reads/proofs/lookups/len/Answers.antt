-- `store_reads::len` meets its contract: past the first tests, what the id layer says.
use mathlib.Core.Path.{sym, ◌∙◌}
use Rattle.refusal.specs.Laws.{past, halted, handed_up}
use Rattle.store_reads.specs.Lookup.{counting}
use Rattle.store_reads.proofs.lookups.len.Goals as goal

pub returns-in_err-tested : goal.returns-in_err-tested
unfolding counting
returns-in_err-tested c = handed_up _ _ c.from_residual.ensures.1 (sym (halted _ _ c.in_err-tested.ensures))

pub returns : goal.returns
unfolding counting
returns c = c.len.ensures ∙ sym (past _ _ c.in_ok-tested.ensures)
