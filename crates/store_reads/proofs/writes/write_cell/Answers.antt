-- `store_reads::write_cell` meets its contract: the cell's word decides.
use Rattle.store_reads.proofs.Writing.{stored_held, stored_free}
use Rattle.store_reads.proofs.writes.write_cell.Goals as goal

pub returns-then-word_at-ne0 : goal.returns-then-word_at-ne0
returns-then-word_at-ne0 c = stored_held _ _ _ _ _ c.word_at.ensures c.if-word_at-ne0.true

pub returns : goal.returns
returns c = stored_free _ _ _ _ _ c.word_at.ensures c.if-word_at-ne0.false _ c.write.ensures
