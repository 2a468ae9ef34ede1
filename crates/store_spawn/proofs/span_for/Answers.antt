-- `store_spawn::span_for` meets its contract: the first tests refuse, or the next ones do; else the span is the archetype's.
use mathlib.Core.Path.{◌∙◌}
use Rattle.store_tables.proofs.Running.{first_tests}
use Rattle.store_tables.proofs.Entering.{entered}
use Rattle.store_spawn.proofs.Taking.{refuses, first_refuse, then_refuse, admits}
use Rattle.store_spawn.proofs.span_for.Goals as goal

pub returns-in_err-tested : goal.returns-in_err-tested
returns-in_err-tested c = refuses _ _ _ _ _ c.from_residual.ensures.1 (first_refuse _ _ _ (c.in_err-tested.ensures ∙ first_tests _ _ _ _ _ c.span-span.ensures c.is_run_wrong-short.ensures))

pub spawn_tested-requires : goal.spawn_tested-requires
spawn_tested-requires c = entered _ _ c.in_ok-tested.ensures

pub returns-in_err-spawn_tested : goal.returns-in_err-spawn_tested
returns-in_err-spawn_tested c = refuses _ _ _ _ _ c.from_residual-in_err-spawn_tested.ensures.1 (then_refuse _ _ _ (c.in_ok-tested.ensures ∙ first_tests _ _ _ _ _ c.span-span.ensures c.is_run_wrong-short.ensures) c.in_err-spawn_tested.ensures)

pub returns : goal.returns
returns c = admits _ _ _ (c.in_ok-tested.ensures ∙ first_tests _ _ _ _ _ c.span-span.ensures c.is_run_wrong-short.ensures) _ c.span-span.ensures c.in_ok-spawn_tested.ensures
