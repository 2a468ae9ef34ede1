-- `store_insert::insert` meets its contract: the component is overwritten, or the row has moved.
use Rattle.store_insert.proofs.Coming.{over_there, over_sized, is_over, may_move, from_there, to_there, has_come}
use Rattle.store_insert.proofs.insert.Goals as goal

pub overwrite-requires-clause-span_value : goal.overwrite-requires-clause-span_value
overwrite-requires-clause-span_value c = over_there _ _ _ _ _ _ _ c.in_ok-span.ensures.0 _ c.in_ok-span.ensures.1 _ c.in-Over.is

pub overwrite-requires-clause-kind_value : goal.overwrite-requires-clause-kind_value
overwrite-requires-clause-kind_value c = over_sized _ _ _ _ _ _ _ c.in_ok-span.ensures.0 _ c.in_ok-span.ensures.1 _ c.in-Over.is

pub take_in-requires-clause-moving : goal.take_in-requires-clause-moving
take_in-requires-clause-moving c = may_move _ _ _ _ _ _ _ c.in_ok-span.ensures.0 _ c.in_ok-span.ensures.1 _ _ c.in-Into.is

pub take_in-requires-clause-span_value : goal.take_in-requires-clause-span_value
take_in-requires-clause-span_value c = from_there _ _ _ _ _ _ _ c.in_ok-span.ensures.0 _ c.in_ok-span.ensures.1 _ _ c.in-Into.is

pub take_in-requires-clause-target_value : goal.take_in-requires-clause-target_value
take_in-requires-clause-target_value c = to_there _ _ _ _ _ _ _ c.in_ok-span.ensures.0 _ c.in_ok-span.ensures.1 _ _ c.in-Into.is

pub returns-in-Over : goal.returns-in-Over
returns-in-Over c = is_over _ _ _ _ _ _ _ c.in_ok-span.ensures.0 _ c.in_ok-span.ensures.1 _ c.in-Over.is _ c.overwrite.ensures

pub returns-in-Into : goal.returns-in-Into
returns-in-Into c = has_come _ _ _ _ _ _ _ c.in_ok-span.ensures.0 _ c.in_ok-span.ensures.1 _ _ c.in-Into.is _ _ _ c.take_in.ensures
