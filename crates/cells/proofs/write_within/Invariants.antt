-- `cells::write_within` meets its contract. The loop's invariant: the first i bytes are stored.
use mathlib.Core.Path.{◌≡◌}
use Rattle.cells.proofs.Loops.{stored}
use Rattle.cells.proofs.write_within.Given as goal

abbrev pub invariant-loop-i : goal.invariant-loop-i
invariant-loop-i l = l.bytes ≡ stored l.initial.bytes l.at l.value l.i
