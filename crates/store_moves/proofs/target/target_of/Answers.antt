use native.Mathlib.Omega.{arith}
use Rattle.store_moves.proofs.Seeking.{sought_none, sought_more, sought_here, sought_done}
use Rattle.store_moves.proofs.target.target_of.Goals as goal

pub loop-a-init : goal.loop-a-init
loop-a-init c = (omega arith, sought_none _ _)

pub returns-then-is_changed : goal.returns-then-is_changed
returns-then-is_changed c = sought_here _ _ _ _ _ c.loop-a.invariant.1 c.end_of-to.ensures.0 _ c.is_changed.ensures c.loop-a-test.true c.if-is_changed.true

pub loop-a-preserved : goal.loop-a-preserved
loop-a-preserved c = (c.end_of-to.ensures.2, sought_more _ _ _ _ _ c.loop-a.invariant.1 c.end_of-to.ensures.0 _ c.is_changed.ensures c.if-is_changed.false)

pub returns : goal.returns
returns c = sought_done _ _ _ _ c.loop-a.invariant.1 (omega arith) c.loop-a-test.false
