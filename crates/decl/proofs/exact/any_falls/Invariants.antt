-- `decl::exact::any_falls` meets its contract. The loop's invariant: `at` is where the archetype's columns begin, and those before it ascend.
use mathlib.Core.Bool.{false}
use mathlib.Core.Path.{◌≡◌}
use Rattle.decl.specs.Lists.{first_of, any_below}
use Rattle.decl.specs.Steps.{falls}
use Rattle.decl.proofs.exact.any_falls.Given as goal

abbrev pub invariant-loop-a : goal.invariant-loop-a
invariant-loop-a l = (l.at ≡ first_of l.widths l.a) × (any_below l.a (falls l.widths l.types) ≡ false)
