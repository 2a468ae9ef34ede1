-- `handle::Handle::new` meets its contract: each return rewrites with the rule's test, which the code's test decides.
use borrow.Author.Tests.{eq-eqb, ne_eqb}
use mathlib.Core.Path.{ap}
use Rattle.refusal.specs.Table.{granted, ◌or_else◌}
use Rattle.handle.specs.Bits.{new_handle}
use Rattle.handle.proofs.Handle.new.Goals as goal

pub returns-then-generation-eq0 : goal.returns-then-generation-eq0
unfolding new_handle ◌or_else◌
returns-then-generation-eq0 c = simp (eq-eqb _ _ c.if-generation-eq0.true)

pub returns : goal.returns
unfolding new_handle ◌or_else◌
returns c = simp (ne_eqb _ _ c.if-generation-eq0.false) (ap granted c.bits_of.ensures)
