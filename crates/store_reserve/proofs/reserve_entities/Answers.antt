-- `store_reserve::reserve_entities` meets its contract: past the first tests, what the id layer says.
use mathlib.Core.Path.{refl}
use Rattle.refusal.specs.Laws.{refuse, via, halted, past, handed_up}
use Rattle.store_reserve.specs.Reserve.{reserving_many}
use Rattle.store_reserve.proofs.Lifting.{did_within}
use Rattle.store_reserve.proofs.reserve_entities.Goals as goal

pub returns-in_err-tested : goal.returns-in_err-tested
unfolding reserving_many
returns-in_err-tested c = rw (handed_up _ _ c.from_residual.ensures.1 refl) (refuse (halted _ _ c.in_err-tested.ensures))

pub returns : goal.returns
unfolding reserving_many
returns c = via (past _ _ c.in_ok-tested.ensures) (did_within _ _ c.reserve_entities.ensures)
