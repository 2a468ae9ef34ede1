-- `store_reads::find_component` meets its contract: the column of the type where the entity has a row.
use mathlib.Core.Path.{sym, ap, ◌∙◌}
use Rattle.refusal.specs.Laws.{handed_up}
use Rattle.store_reads.specs.Steps.{PlacedIn, component_for}
use Rattle.store_reads.proofs.Locating.{no_row}
use Rattle.store_reads.proofs.component.find_component.Goals as goal

pub returns-in_err-place : goal.returns-in_err-place
returns-in_err-place c = handed_up _ _ c.from_residual.ensures.1 (no_row _ _ _ _ c.in_err-place.ensures.value c.in_err-place.ensures.ok_part)

pub find_cell-requires-clause-row_in : goal.find_cell-requires-clause-row_in
unfolding PlacedIn
find_cell-requires-clause-row_in c = rw c.in_ok-place.ensures.ok_part at c.requires.placed_in

pub returns : goal.returns
unfolding component_for
returns c = c.find_cell.ensures ∙ sym (ap (component_for _ _) c.in_ok-place.ensures.ok_part)
