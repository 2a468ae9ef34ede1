-- What is left of the values decides, for a table of the same length.
use Rattle.std.proofs.Common.{◌≡◌, drop, fold, length}
use Rattle.replay_line.specs.Tables.{placed}
use Rattle.replay_line.proofs.fills.fill.Given as goal

abbrev pub invariant-loop-i : goal.invariant-loop-i
invariant-loop-i g l =
    (fold (placed g.T.Keeps.keeps) (l.fn.table, 0) l.values ≡ fold (placed g.T.Keeps.keeps) (l.table, l.i) (drop l.i l.values)) × (length l.table ≡ length l.fn.table)
