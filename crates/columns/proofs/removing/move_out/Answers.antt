-- `columns::move_out` meets its contract: the tests decide, or the row's bytes are handed over and it is removed.
use mathlib.Core.Path.{refl}
use Rattle.refusal.specs.Laws.{handed_up_by}
use Rattle.columns.proofs.Answers.{move_there, move_asked, move_refused, move_did}
use Rattle.columns.proofs.removing.move_out.Goals as goal

pub returns-in_err-move_tested : goal.returns-in_err-move_tested
returns-in_err-move_tested c = rw (handed_up_by _ _ _ c.from_residual.ensures.1 refl) (move_refused _ _ _ _ _ c.in_err-move_tested.ensures)

pub move_step-requires : goal.move_step-requires
move_step-requires c = let e = move_asked _ _ _ _ _ c.in_ok-move_tested.ensures in record { kept = e.0; archetype_in_bounds = e.1 }

pub remove_step-requires : goal.remove_step-requires
remove_step-requires c = move_there _ _ _ _ _ c.in_ok-move_tested.ensures

pub returns : goal.returns
returns c = move_did _ _ _ _ _ c.in_ok-move_tested.ensures _ _ _ c.remove_step.ensures refl c.move_step.ensures
