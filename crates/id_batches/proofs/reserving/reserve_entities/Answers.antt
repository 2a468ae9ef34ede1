-- `id_batches::reserving::reserve_entities` meets its contract: the first tests, then what is left.
use Rattle.refusal.specs.Laws.{via, halted, past}
use Rattle.id_batches.specs.Reserve.{reserving}
use Rattle.id_batches.proofs.Upward.{hands_up}
use Rattle.id_batches.proofs.Ways.{entered}
use Rattle.id_batches.proofs.reserving.reserve_entities.Goals as goal

pub returns-in_err-tested : goal.returns-in_err-tested
unfolding reserving
returns-in_err-tested c = hands_up _ _ c.from_residual.ensures.1 (halted _ _ c.in_err-tested.ensures)

pub entities_reserved-requires : goal.entities_reserved-requires
entities_reserved-requires c = let e = entered _ _ _ c.in_ok-tested.ensures in record { entry_ok = e.0; n_in_bounds = e.1 }

pub returns : goal.returns
unfolding reserving
returns c = via (past _ _ c.in_ok-tested.ensures) c.entities_reserved.ensures
