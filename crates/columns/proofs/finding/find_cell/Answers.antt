-- `columns::find_cell` meets its contract: the column that the search finds, and the line's cell in it.
use Rattle.columns.proofs.Steps.{cell_missing, cell_none, cell_some}
use Rattle.columns.proofs.finding.find_cell.Goals as goal

pub returns-in_default : goal.returns-in_default
returns-in_default c = cell_missing _ _ _ _ c.in_default.ensures

pub returns-then-sizes-j : goal.returns-then-sizes-j
returns-then-sizes-j c = cell_none _ _ _ _ _ c.in-Some.ensures c.if-sizes-j.true

pub returns : goal.returns
returns c = cell_some _ _ _ _ _ c.in-Some.ensures c.if-sizes-j.false _ _ c.past-here.ensures c.cell.ensures
