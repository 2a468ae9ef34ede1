-- `store_spawn::is_full` meets its contract: where nothing is reserved, the room is what is pending and what was never used.
use Rattle.store_spawn.proofs.Testing.{some_pending, none_pending}
use Rattle.store_spawn.proofs.is_full.Goals as goal

pub returns-then-head-ne0 : goal.returns-then-head-ne0
returns-then-head-ne0 c = some_pending _ _ c.requires.head_value c.if-head-ne0.true

pub returns : goal.returns
returns c = none_pending _ _ c.requires.head_value c.requires.used_le_capacity c.if-head-ne0.false
