-- `store_reads::read_cell` meets its contract: the cell's word decides.
use Rattle.store_reads.proofs.Reading.{cell_held, cell_free}
use Rattle.store_reads.proofs.reads.read_cell.Goals as goal

pub returns-then-word_at-eq1 : goal.returns-then-word_at-eq1
returns-then-word_at-eq1 c = cell_held _ _ _ c.word_at.ensures c.if-word_at-eq1.true

pub returns : goal.returns
returns c = cell_free _ _ _ c.word_at.ensures c.if-word_at-eq1.false
