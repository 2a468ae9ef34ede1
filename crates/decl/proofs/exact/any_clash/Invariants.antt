-- `decl::exact::any_clash` meets its contract. The loop's invariant: `at` is where the archetype's columns begin, and none before it clashes with one before that.
use mathlib.Core.Bool.{false}
use mathlib.Core.Path.{◌≡◌}
use Rattle.decl.specs.Lists.{first_of, any_below}
use Rattle.decl.specs.Steps.{clash_at}
use Rattle.decl.proofs.exact.any_clash.Given as goal

abbrev pub invariant-loop-b : goal.invariant-loop-b
invariant-loop-b l = (l.at ≡ first_of l.widths l.b) × (any_below l.b (λ k. any_below k (λ a. clash_at l.widths l.types l.sizes a k)) ≡ false)
