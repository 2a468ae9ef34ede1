-- `decl::exact::clash` meets its contract. The loop's invariant: `Walked`, what the columns that are left say of all. The measure is how many are left.
use Prim.Native.Nat.{◌+◌, ◌-◌, ◌≤◌}
use lib.ListN.{length}
use Rattle.decl.proofs.Merge.{Walked}
use Rattle.decl.proofs.exact.clash.Given as goal

abbrev pub invariant-loop-i : goal.invariant-loop-i
invariant-loop-i l = (l.i ≤ length l.xs) × (l.j ≤ length l.ys) × Walked l.xs l.ss l.ys l.ts l.differ l.i l.j

abbrev pub decreases-loop-i : goal.decreases-loop-i
decreases-loop-i l = (length l.xs - l.i) + (length l.ys - l.j)
