-- `columns::get` meets its contract: the tests decide, or the cell that is found is answered.
use Rattle.refusal.specs.Laws.{handed_up}
use Rattle.columns.proofs.Answers.{get_asked, get_refused, get_told}
use Rattle.columns.proofs.finding.get.Goals as goal

pub returns-in_err-held_tested : goal.returns-in_err-held_tested
returns-in_err-held_tested c = handed_up _ _ c.from_residual.ensures.1 (get_refused _ _ _ _ _ c.in_err-held_tested.ensures)

pub cell_of-requires : goal.cell_of-requires
cell_of-requires c = let e = get_asked _ _ _ _ c.in_ok-held_tested.ensures in record { kept = e.0; archetype_in_bounds = e.1 }

pub returns : goal.returns
returns c = get_told _ _ _ _ _ c.in_ok-held_tested.ensures c.cell_of.ensures
