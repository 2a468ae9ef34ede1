-- `id_tables::capacity_tested` meets its contract: the one test decides.
use Rattle.std.proofs.Common.{le-ltb, lt-ltb}
use Rattle.refusal.specs.Table.{◌or_else◌}
use Rattle.id_tables.specs.Ids.{capacity_rules}
use Rattle.id_tables.proofs.entry.capacity_tested.Goals as goal

pub returns-then-capacity-gt-MAX_CAPACITY : goal.returns-then-capacity-gt-MAX_CAPACITY
unfolding capacity_rules ◌or_else◌
returns-then-capacity-gt-MAX_CAPACITY c = simp (lt-ltb _ _ c.if-capacity-gt-MAX_CAPACITY.true)

pub returns : goal.returns
unfolding capacity_rules ◌or_else◌
returns c = simp (le-ltb _ _ c.if-capacity-gt-MAX_CAPACITY.false)
