use mathlib.Core.Path.{refl}
use native.Mathlib.Omega.{arith}
use lib.ListN.{length-set}
use Rattle.cells.proofs.Loops.{stored_none, copy_more, copy_all}
use Rattle.cells.proofs.copy_within.Goals as goal

pub loop-i-init : goal.loop-i-init
loop-i-init c = (stored_none _ _ _, refl)

pub loop-i-preserved : goal.loop-i-preserved
loop-i-preserved c =
    (copy_more _ _ _ _ c.requires _ _ c.loop-i-test.true c.loop-i.invariant.0, simp length-set c.loop-i.invariant.1)

pub returns : goal.returns
returns c = copy_all _ _ _ _ c.requires _ _ (omega arith) c.loop-i.invariant.0
