-- `cells::carry` meets its contract. The loop's invariant: what is left of the columns decides.
use mathlib.Core.Path.{◌≡◌}
use lib.ListN.{length, drop}
use Rattle.cells.specs.Line.{carried}
use Rattle.cells.proofs.carry.Given as goal

abbrev pub invariant-loop-size : goal.invariant-loop-size
invariant-loop-size l = (length l.bytes ≡ length l.initial.bytes) × (carried l.initial.bytes l.initial.source l.initial.target l.sizes ≡ carried l.bytes l.source l.target (drop l.size-index l.sizes))
