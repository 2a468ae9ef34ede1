-- `cells::copy_within` meets its contract. The loop's invariant: the first i bytes are stored.
use mathlib.Core.Path.{◌≡◌}
use lib.ListN.{length}
use Rattle.cells.specs.Cell.{cell}
use Rattle.cells.proofs.Loops.{stored}
use Rattle.cells.proofs.copy_within.Given as goal

abbrev pub invariant-loop-i : goal.invariant-loop-i
invariant-loop-i l = (l.bytes ≡ stored l.initial.bytes l.to (cell l.initial.bytes l.from l.size) l.i) × (length l.bytes ≡ length l.initial.bytes)
