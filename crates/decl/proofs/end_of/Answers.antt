-- `decl::end_of` meets its contract: an archetype's columns end where the next one's begin, and within the sum.
use native.Mathlib.Omega.{arith}
use borrow.Author.Rules.{rules}
use Rattle.decl.proofs.Lists.{first_step, part_in_sum}
use Rattle.decl.proofs.end_of.Goals as goal

pub overflow_add-result : goal.overflow_add-result
overflow_add-result c = omega (arith, part_in_sum c.args.widths.now c.args.a)

pub returns : goal.returns
returns c = (first_step _ _ _ c.requires.1, search rules, omega (arith, part_in_sum c.args.widths.now c.args.a))
