use Rattle.std.proofs.Common.{arith}
use Rattle.id_batches.proofs.Writing.{written_none, written_more}
use Rattle.id_batches.proofs.loops.write.Goals as goal

pub loop-i-init : goal.loop-i-init
loop-i-init g c = written_none _ 0

pub loop-i-preserved : goal.loop-i-preserved
loop-i-preserved g c = written_more _ _ _ _ (omega arith) c.loop-i.invariant c.value.ensures
