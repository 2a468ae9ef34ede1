-- `decl::exact::clash_before` meets its contract. The loop's invariant: `at` is where the archetype's columns begin, and none before it clashes with b.
use mathlib.Core.Bool.{false}
use mathlib.Core.Path.{◌≡◌}
use Rattle.decl.specs.Lists.{first_of, any_below}
use Rattle.decl.specs.Steps.{clash_at}
use Rattle.decl.proofs.exact.clash_before.Given as goal

abbrev pub invariant-loop-a : goal.invariant-loop-a
invariant-loop-a l = (l.at ≡ first_of l.widths l.a) × (any_below l.a (λ k. clash_at l.widths l.types l.sizes k l.b) ≡ false)
