-- `columns::allocate` meets its contract: the tests decide, or the step does what the rule grants.
use mathlib.Core.Path.{refl}
use Rattle.refusal.specs.Laws.{handed_up_by}
use Rattle.columns.proofs.Answers.{allocate_asked, allocate_did, allocate_refused}
use Rattle.columns.proofs.appending.allocate.Goals as goal

pub returns-in_err-allocate_tested : goal.returns-in_err-allocate_tested
returns-in_err-allocate_tested c = rw (handed_up_by _ _ _ c.from_residual.ensures.1 refl) (allocate_refused _ _ _ _ c.in_err-allocate_tested.ensures)

pub allocate_step-requires : goal.allocate_step-requires
allocate_step-requires c = let e = allocate_asked _ _ _ c.in_ok-allocate_tested.ensures in record { kept = e.0; archetype_in_bounds = e.1 }

pub returns : goal.returns
returns c =
    allocate_did _ _ _ c.in_ok-allocate_tested.ensures _ _ _ _ c.allocate_step.ensures.0
    c.allocate_step.ensures.1 c.allocate_step.ensures.2
