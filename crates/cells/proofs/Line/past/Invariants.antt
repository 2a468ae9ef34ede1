-- `cells::Line::past` meets its contract. The loop's invariant: what is left of the columns decides.
use Prim.Native.Nat.{◌≤◌}
use mathlib.Core.Path.{◌≡◌}
use lib.ListN.{drop}
use Rattle.cells.specs.Line.{past_of, last_place, line_told}
use Rattle.cells.proofs.Line.past.Given as goal

abbrev pub invariant-loop-size : goal.invariant-loop-size
invariant-loop-size l = (l.line.start ≤ last_place) × (line_told (past_of l.initial.line l.sizes) ≡ line_told (past_of l.line (drop l.size-index l.sizes)))
