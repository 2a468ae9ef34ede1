use native.Mathlib.Omega.{arith}
use Rattle.cells.proofs.Loops.{stored_none, stored_more, stored_all}
use Rattle.cells.proofs.write_within.Goals as goal

pub loop-i-init : goal.loop-i-init
loop-i-init c = stored_none _ _ _

pub loop-i-preserved : goal.loop-i-preserved
loop-i-preserved c = stored_more _ _ _ _ _ c.requires c.loop-i-test.true c.loop-i.invariant

pub returns : goal.returns
returns c = stored_all _ _ _ _ _ (omega arith) c.loop-i.invariant
