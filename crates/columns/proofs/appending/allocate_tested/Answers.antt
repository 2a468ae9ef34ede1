-- `columns::allocate_tested` meets its contract: the entry's tests, the archetype's, then room for a row.
use Rattle.refusal.specs.Laws.{handed_up}
use Rattle.refusal.specs.Chain.{stop, go}
use Rattle.columns.specs.Calls.{allocate_rules}
use Rattle.columns.proofs.Tests.{no_archetype, no_room, room}
use Rattle.columns.proofs.appending.allocate_tested.Goals as goal

pub returns-in_err-tested : goal.returns-in_err-tested
unfolding allocate_rules
returns-in_err-tested c = handed_up _ _ c.from_residual.ensures.1 (stop _ _ c.in_err-tested.ensures)

pub returns-then-declaration-archetype : goal.returns-then-declaration-archetype
unfolding allocate_rules
returns-then-declaration-archetype c = go _ _ c.in_ok-tested.ensures (no_archetype _ _ _ c.if-declaration-archetype.true)

pub returns-then-declaration-archetype-2 : goal.returns-then-declaration-archetype-2
unfolding allocate_rules
returns-then-declaration-archetype-2 c =
    go _ _ c.in_ok-tested.ensures (no_room _ _ _ c.if-declaration-archetype.false _ c.count_of.ensures c.if-declaration-archetype-2.true)

pub returns : goal.returns
unfolding allocate_rules
returns c = go _ _ c.in_ok-tested.ensures (room _ _ _ c.if-declaration-archetype.false _ c.count_of.ensures c.if-declaration-archetype-2.false)
