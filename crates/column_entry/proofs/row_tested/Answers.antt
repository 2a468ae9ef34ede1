-- `column_entry::row_tested` meets its contract: the archetype's test, then the row's.
use Rattle.column_entry.proofs.Keeping.{no_archetype, no_row, row_there}
use Rattle.column_entry.proofs.row_tested.Goals as goal

pub returns-then-rows-archetype : goal.returns-then-rows-archetype
returns-then-rows-archetype c = no_archetype _ _ _ _ c.if-rows-archetype.true

pub returns-then-count_of-row : goal.returns-then-count_of-row
returns-then-count_of-row c = no_row _ _ _ _ _ c.count_of.ensures c.if-rows-archetype.false c.if-count_of-row.true

pub returns : goal.returns
returns c = row_there _ _ _ _ _ c.count_of.ensures c.if-rows-archetype.false c.if-count_of-row.false
