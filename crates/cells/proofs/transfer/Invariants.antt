-- `cells::transfer` meets its contract. The loop's invariant: what is left of the columns decides.
use mathlib.Core.Path.{◌≡◌}
use lib.ListN.{length, drop}
use Rattle.cells.specs.Line.{transferred}
use Rattle.cells.proofs.transfer.Given as goal

abbrev pub invariant-loop-size : goal.invariant-loop-size
invariant-loop-size l = (length l.out ≡ length l.initial.out) × (transferred l.bytes l.initial.source l.initial.out l.initial.target l.sizes ≡ transferred l.bytes l.source l.out l.target (drop l.size-index l.sizes))
