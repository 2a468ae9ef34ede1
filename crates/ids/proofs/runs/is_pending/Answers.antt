-- `ids::runs::is_pending` meets its contract: the position is asked for where the list reaches its count.
use mathlib.Core.Path.{◌∙◌}
use Rattle.ids.proofs.Stepping.{short_list, is_there}
use Rattle.ids.proofs.runs.is_pending.Goals as goal

pub returns-then-pending-count : goal.returns-then-pending-count
returns-then-pending-count c = short_list _ _ _ c.if-pending-count.true

pub returns : goal.returns
returns c = c.is_some.ensures ∙ is_there _ _ _ _ c.if-pending-count.false c.position_of.ensures
