-- `id_batches::loops::write` meets its contract. The loop's invariant: what is written so far is as the function says.
use lib.ListN.{take}
use Rattle.id_batches.specs.Seating.{Written}
use Rattle.id_batches.proofs.loops.write.Given as goal

abbrev pub invariant-loop-i : goal.invariant-loop-i
invariant-loop-i g l = Written (goal.F-post g l.value) 0 (take l.i l.entries)
