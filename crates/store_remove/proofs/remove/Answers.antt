-- `store_remove::remove` meets its contract: the row has moved.
use Rattle.store_remove.proofs.Leaving.{may_move, from_there, has_left}
use Rattle.store_remove.proofs.remove.Goals as goal

pub take_out-requires-clause-moving : goal.take_out-requires-clause-moving
take_out-requires-clause-moving c = may_move _ _ _ _ _ _ c.in_ok-span.ensures.0 _ c.in_ok-span.ensures.1

pub take_out-requires-clause-span_value : goal.take_out-requires-clause-span_value
take_out-requires-clause-span_value c = from_there _ _ _ _ _ _ c.in_ok-span.ensures.0 _ c.in_ok-span.ensures.1

pub returns : goal.returns
returns c = has_left _ _ _ _ _ _ c.in_ok-span.ensures.0 _ c.in_ok-span.ensures.1 _ _ _ c.take_out.ensures
