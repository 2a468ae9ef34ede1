-- `store_reads::resolve_unknown_gen` meets its contract: past the first tests, what the id layer says.
use mathlib.Core.Path.{sym, ◌∙◌}
use Rattle.refusal.specs.Laws.{past, halted, handed_up_by}
use Rattle.store_reads.specs.Lookup.{resolving}
use Rattle.store_reads.proofs.lookups.resolve_unknown_gen.Goals as goal

pub returns-in_err-tested : goal.returns-in_err-tested
unfolding resolving
returns-in_err-tested c = handed_up_by _ _ _ c.from_residual.ensures.1 (sym (halted _ _ c.in_err-tested.ensures))

pub returns : goal.returns
unfolding resolving
returns c = c.resolve_unknown_gen.ensures ∙ sym (past _ _ c.in_ok-tested.ensures)
