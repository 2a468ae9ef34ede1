-- `store_spawn::is_next_damaged` meets its contract: none is pending, or the last is looked at.
use Rattle.store_spawn.proofs.Testing.{new_next, last_next}
use Rattle.store_spawn.proofs.is_next_damaged.Goals as goal

pub returns-then-head-eq0 : goal.returns-then-head-eq0
returns-then-head-eq0 c = new_next _ _ c.if-head-eq0.true

pub returns : goal.returns
returns c = last_next _ _ _ _ _ _ _ c.if-head-eq0.false c.is_damaged.ensures c.at-last.ensures
