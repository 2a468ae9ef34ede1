-- `id_tables::Head::is_flushed` meets its contract: the two counts decide.
use Rattle.std.proofs.Common.{eq-eqb, ne_eqb}
use Rattle.id_tables.specs.Head.{flushed}
use Rattle.id_tables.proofs.head.Head.is_flushed.Goals as goal

pub returns-then-free-self : goal.returns-then-free-self
unfolding flushed
returns-then-free-self c = simp (← c.free.ensures, ← c.fresh.ensures, eq-eqb _ _ c.if-free-self.true)

pub returns-else-free-self : goal.returns-else-free-self
unfolding flushed
returns-else-free-self c = simp (← c.free.ensures, ne_eqb _ _ c.if-free-self.false)
