-- `id_tables::lengths_tested` meets its contract: each return rewrites with the tests that led there.
use Rattle.std.proofs.Common.{eq-eqb, ne_eqb}
use Rattle.refusal.specs.Table.{◌or_else◌}
use Rattle.id_tables.specs.Ids.{length_rules}
use Rattle.id_tables.proofs.entry.lengths_tested.Goals as goal

pub returns-then-archetypes-capacity : goal.returns-then-archetypes-capacity
unfolding length_rules ◌or_else◌
returns-then-archetypes-capacity c = simp (ne_eqb _ _ c.if-archetypes-capacity.true)

pub returns-then-indices-capacity : goal.returns-then-indices-capacity
unfolding length_rules ◌or_else◌
returns-then-indices-capacity c = simp (eq-eqb _ _ c.if-archetypes-capacity.false, ne_eqb _ _ c.if-indices-capacity.true)

pub returns-then-pending-capacity : goal.returns-then-pending-capacity
unfolding length_rules ◌or_else◌
returns-then-pending-capacity c = simp (eq-eqb _ _ c.if-archetypes-capacity.false, eq-eqb _ _ c.if-indices-capacity.false, ne_eqb _ _ c.if-pending-capacity.true)

pub returns : goal.returns
unfolding length_rules ◌or_else◌
returns c = simp (eq-eqb _ _ c.if-archetypes-capacity.false, eq-eqb _ _ c.if-indices-capacity.false, eq-eqb _ _ c.if-pending-capacity.false)
