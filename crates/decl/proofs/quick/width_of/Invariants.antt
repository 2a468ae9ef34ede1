-- `decl::quick::width_of` meets its contract. The loop's invariant: `Going`, what is known of the columns passed.
use lib.ListN.{length}
use Rattle.decl.proofs.Glancing.{Going}
use Rattle.decl.proofs.quick.width_of.Given as goal

abbrev pub invariant-loop-x : goal.invariant-loop-x
invariant-loop-x l = Going l.types l.sizes 0 (length l.types) l.width l.least (length l.yielded)
