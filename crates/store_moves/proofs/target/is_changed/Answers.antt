-- `store_moves::is_changed` meets its contract: a number was put in, or one taken out.
use Rattle.store_moves.proofs.Splicing.{is_with, is_without}
use Rattle.store_moves.proofs.target.is_changed.Goals as goal

pub returns-in-Added : goal.returns-in-Added
returns-in-Added c = rw c.in-Added.is (is_with _ _ _ _ c.min-k.ensures _ _ c.is_joined.ensures)

pub returns-in-Taken : goal.returns-in-Taken
returns-in-Taken c = rw c.in-Taken.is (is_without _ _ _ _ c.min-k.ensures _ _ c.min.ensures c.is_joined-in-Taken.ensures)
