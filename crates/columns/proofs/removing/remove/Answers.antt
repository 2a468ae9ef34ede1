-- `columns::remove` meets its contract: the tests decide, or the step does what the rule grants.
use mathlib.Core.Path.{refl}
use Rattle.refusal.specs.Laws.{handed_up_by}
use Rattle.columns.proofs.Answers.{held_there, remove_refused, remove_did}
use Rattle.columns.proofs.removing.remove.Goals as goal

pub returns-in_err-held_tested : goal.returns-in_err-held_tested
returns-in_err-held_tested c = rw (handed_up_by _ _ _ c.from_residual.ensures.1 refl) (remove_refused _ _ _ _ c.in_err-held_tested.ensures)

pub remove_step-requires : goal.remove_step-requires
remove_step-requires c = held_there _ _ _ _ c.in_ok-held_tested.ensures

pub returns : goal.returns
returns c = remove_did _ _ _ _ c.in_ok-held_tested.ensures _ _ c.remove_step.ensures refl
