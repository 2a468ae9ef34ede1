-- `decl::quick::mark_of` meets its contract. The loop's invariant: the columns passed are noted, `Going` says what is known of them, and `Marking` what their mark is.
use Rattle.decl.specs.Steps.{Noted}
use Rattle.decl.proofs.Glancing.{Going, Marking}
use Rattle.decl.proofs.quick.mark_of.Given as goal

abbrev pub invariant-loop-p : goal.invariant-loop-p
invariant-loop-p l = Noted l.types l.sizes l.seen l.sized l.p × Going l.types l.sizes l.from l.to l.width l.least l.p × Marking l.types l.from l.to l.bits l.p
