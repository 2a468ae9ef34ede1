-- `handle::Handle::from_bits` meets its contract: each return rewrites with the rule's test, which the code's test decides.
use native.Mathlib.Omega.{arith}
use borrow.Author.Tests.{eq-eqb, ne_eqb}
use Rattle.refusal.specs.Table.{◌or_else◌}
use Rattle.handle.specs.Bits.{from_bits, generation_in}
use Rattle.handle.proofs.Handle.from_bits.Goals as goal

pub returns-then-bits-eq0 : goal.returns-then-bits-eq0
unfolding from_bits ◌or_else◌
returns-then-bits-eq0 c = simp (eq-eqb (generation_in c.args.bits) 0 (omega arith))

pub returns : goal.returns
unfolding from_bits ◌or_else◌
returns c = simp (ne_eqb (generation_in c.args.bits) 0 (λ e. omega arith))
