-- `decl::find` meets its contract: a search of the whole takes at most as many steps as there are types.
use native.Mathlib.Omega.{arith}
use lib.ListN.{length}
use Rattle.decl.specs.Lookup.{searched}
use Rattle.decl.proofs.find.Goals as goal

pub returns : goal.returns
unfolding searched
returns c = c.seek.ensures (length c.args.types.now) (omega arith)
