-- `decl::Declaration::span_of` meets its contract. The loop's invariant: `Counted`, what the archetypes passed take, and that none is too large.
use mathlib.Core.Bool.{false}
use mathlib.Core.Path.{◌≡◌}
use Rattle.decl.specs.Lists.{any_below}
use Rattle.decl.specs.Decl.{decl_in}
use Rattle.decl.specs.Places.{outgrown}
use Rattle.decl.proofs.Counting.{Counted}
use Rattle.decl.proofs.Declaration.span_of.Given as goal

abbrev pub invariant-loop-a : goal.invariant-loop-a
invariant-loop-a l = Counted (decl_in l.self) l.row l.column l.base l.a × (any_below l.a (outgrown (decl_in l.self)) ≡ false)
