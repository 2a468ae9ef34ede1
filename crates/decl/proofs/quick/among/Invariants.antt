-- `decl::quick::among` meets its contract. The loop's invariant: `Counted`, what the archetypes passed take, and `Passing`, what is known of their columns.
use Rattle.decl.specs.Decl.{decl_of}
use Rattle.decl.proofs.Glancing.{Passing}
use Rattle.decl.proofs.Counting.{Counted}
use Rattle.decl.proofs.quick.among.Given as goal

abbrev pub invariant-loop-a : goal.invariant-loop-a
invariant-loop-a l = Counted (decl_of l.rows l.widths l.types l.sizes) l.row l.at l.base l.a × Passing l.widths l.types l.sizes l.seen l.sized l.marks l.at l.a
