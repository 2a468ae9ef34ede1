-- `borrow_word::unique_at` meets its contract: no such position, or what `unique` says of the word there, stored.
use Rattle.borrow_word.proofs.Laws.{stepped}
use Rattle.borrow_word.proofs.unique_at.Goals as goal

pub returns : goal.returns
returns c = stepped _ _ _ _ _ c.step_at.ensures.past c.step_at.ensures.within
