-- The range that is left falls.
use Rattle.std.proofs.Common.{◌-◌}
use Rattle.decl.proofs.+seek.Given as goal

abbrev pub decreases-seek : goal.decreases-seek
decreases-seek l = l.hi - l.lo
