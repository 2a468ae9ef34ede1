-- `ids::take_chosen::take_pending` meets its contract: damage is refused, and else the last entry is moved and the number settled.
use mathlib.Core.Path.{sym, ◌∙◌}
use Rattle.ids.proofs.Choosing.{pending_did, pending_refused}
use Rattle.ids.proofs.take_chosen.take_pending.Goals as goal

pub returns-then-is_damaged : goal.returns-then-is_damaged
returns-then-is_damaged c = pending_refused _ _ _ (sym c.is_damaged.ensures ∙ c.if-is_damaged.true)

pub returns : goal.returns
returns c =
    pending_did _ _ _ _ _ _ _ c.settle.ensures _ _ _ _ (sym c.is_damaged.ensures ∙ c.if-is_damaged.false) c.at-moved.ensures c.requires.position_value.0 c.put.ensures c.flushed.ensures
