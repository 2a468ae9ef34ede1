-- `ids::take_chosen::take_over` meets its contract: no place is damage, and else the old place is answered.
use Rattle.ids.proofs.Choosing.{over_did, over_refused}
use Rattle.ids.proofs.take_chosen.take_over.Goals as goal

pub returns-then-old : goal.returns-then-old
returns-then-old c = over_refused _ _ _ _ c.place_at-old.ensures c.if-old.true

pub returns : goal.returns
returns c = over_did _ _ _ _ _ _ _ c.settle.ensures _ c.place_at-old.ensures c.if-old.false
