-- `columns::ids` meets its contract: the tests decide, or the archetype's part is answered.
use Rattle.refusal.specs.Laws.{handed_up}
use Rattle.columns.proofs.Answers.{ids_refused, ids_told}
use Rattle.columns.proofs.listing.ids.Goals as goal

pub returns-in_err-ids_tested : goal.returns-in_err-ids_tested
returns-in_err-ids_tested c = handed_up _ _ c.from_residual.ensures.1 (ids_refused _ _ _ c.in_err-ids_tested.ensures)

pub returns : goal.returns
returns c = ids_told _ _ _ c.in_ok-ids_tested.ensures _ _ c.span-first.ensures c.count_of.ensures
