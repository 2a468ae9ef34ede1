-- `ids::reserve_entity` meets its contract: past the first tests, the handle or its refusal.
use mathlib.Core.Path.{refl}
use Rattle.refusal.specs.Laws.{refuse, stop, handed_up_by}
use Rattle.id_tables.proofs.Entering.{entry_ok}
use Rattle.ids.specs.Reserve.{reserving}
use Rattle.ids.proofs.Reserving.{reserve_refused, reserve_did}
use Rattle.ids.proofs.reserve.reserve_entity.Goals as goal

pub returns-in_err-tested : goal.returns-in_err-tested
unfolding reserving
returns-in_err-tested c = rw (handed_up_by _ _ _ c.from_residual.ensures.1 refl) (refuse (stop _ _ _ c.in_err-tested.ensures))

pub next_reserved-requires : goal.next_reserved-requires
next_reserved-requires c = entry_ok _ _ c.in_ok-tested.ensures

pub returns-in_err-handle : goal.returns-in_err-handle
returns-in_err-handle c = rw (handed_up_by _ _ _ c.from_residual-in_err-handle.ensures.1 refl) (refuse (reserve_refused _ c.in_ok-tested.ensures c.in_err-handle.ensures))

pub returns : goal.returns
returns c = reserve_did _ c.in_ok-tested.ensures _ c.in_ok-handle.ensures c.fallen-ids.ensures
