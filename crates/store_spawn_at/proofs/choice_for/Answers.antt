-- `store_spawn_at::choice_for` meets its contract: the first tests refuse, or the handle does; else its number is what its own tests find.
use mathlib.Core.Path.{◌∙◌}
use Rattle.store_tables.proofs.Running.{first_tests}
use Rattle.store_tables.proofs.Entering.{entered}
use Rattle.store_spawn_at.proofs.Taking.{handed_so, first_refuse, refused_zero, number_found}
use Rattle.store_spawn_at.proofs.choice_for.Goals as goal

pub returns-in_err-tested : goal.returns-in_err-tested
returns-in_err-tested c = handed_so _ _ _ _ _ _ c.from_residual.ensures.1 (first_refuse _ _ _ _ (c.in_err-tested.ensures ∙ first_tests _ _ _ _ _ c.requires c.is_run_wrong-short.ensures))

pub returns-in_default : goal.returns-in_default
returns-in_default c = refused_zero _ _ _ _ (c.in_ok-tested.ensures ∙ first_tests _ _ _ _ _ c.requires c.is_run_wrong-short.ensures) _ c.from_bits.ensures _ c.in_default.is

pub choose-requires : goal.choose-requires
choose-requires c = entered _ _ c.in_ok-tested.ensures

pub returns : goal.returns
returns c = number_found _ _ _ _ (c.in_ok-tested.ensures ∙ first_tests _ _ _ _ _ c.requires c.is_run_wrong-short.ensures) _ c.from_bits.ensures _ c.in-Ok.is _ c.choose.ensures
