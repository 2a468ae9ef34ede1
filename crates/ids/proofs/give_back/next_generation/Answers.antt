-- `ids::give_back::next_generation` meets its contract: a sum that doesn't fit is that of the largest generation.
use Prim.Native.Nat.{ℕ, ◌+◌, ◌<◌}
use mathlib.Core.Path.{◌≡◌, ◌∙◌}
use native.Mathlib.Omega.{arith}
use borrow.Author.Tests.{eq-eqb, ne_eqb}
use Rattle.std.specs.Prelude.{Option, Some, None}
use Rattle.std.specs.Option.{SomeIff, unwrap_or}
use Rattle.ids.specs.Free.{next_generation}
use Rattle.ids.proofs.give_back.next_generation.Goals as goal

next_is : (g : ℕ) (o : Option ℕ) → g < 4294967296 → SomeIff o (g + 1 < 4294967296) (g + 1) → unwrap_or o 1 ≡ next_generation g
next_is g None f e = let k : g ≡ 4294967295 = omega arith in simp (eq-eqb g 4294967295 k)
next_is g (Some n) f e = simp (ne_eqb g 4294967295 (λ z. omega arith)) e.1

pub returns : goal.returns
returns c = c.unwrap_or.ensures ∙ next_is c.args.generation _ c.ranges.generation.fits c.checked_add.ensures
