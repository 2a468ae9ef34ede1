-- `id_readers::state::alloc_many_next` meets its contract: each arm hands on what the step by value did.
use Rattle.id_batches.proofs.Upward.{hands_on_by}
use Rattle.id_readers.proofs.state.alloc_many_next.Goals as goal

pub returns-in_err-number : goal.returns-in_err-number
returns-in_err-number c = hands_on_by _ _ _ c.from_residual.ensures.1 c.in_err-number.ensures

pub returns-in_default : goal.returns-in_default
returns-in_default c = rw c.in_default.is at c.in_ok-number.ensures

pub returns : goal.returns
returns c = rw c.in-Some.is at c.in_ok-number.ensures
