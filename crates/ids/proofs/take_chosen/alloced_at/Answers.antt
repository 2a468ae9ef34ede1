-- `ids::take_chosen::alloced_at` meets its contract: the tests refuse, or the number's case decides.
use mathlib.Core.Path.{refl}
use native.Mathlib.Omega.{arith}
use Rattle.refusal.specs.Laws.{refuse, via, handed_up_by}
use Rattle.ids.proofs.Passing.{chosen_ok}
use Rattle.ids.proofs.Choosing.{stops, goes_past, goes_pending, goes_over, left_did}
use Rattle.ids.proofs.Stepping.{pending_stands, pending_absent}
use Rattle.ids.proofs.take_chosen.alloced_at.Goals as goal

pub returns-in_err-chosen_tested : goal.returns-in_err-chosen_tested
returns-in_err-chosen_tested c =
    rw (handed_up_by _ _ _ c.from_residual.ensures.1 refl) (refuse (stops _ _ _ _ _ _ c.generation-generation.ensures c.id-id.ensures c.in_err-chosen_tested.ensures))

pub take_past-requires : goal.take_past-requires
take_past-requires c = record { entry_ok = c.requires; used_le_number = (c.if-head-n.true, (chosen_ok _ _ _ _ c.in_ok-chosen_tested.ensures).number_in_lem) }

pub returns-then-head-n : goal.returns-then-head-n
returns-then-head-n c =
    left_did (goes_past _ _ _ _ _ _ c.generation-generation.ensures c.id-id.ensures c.in_ok-chosen_tested.ensures c.if-head-n.true) c.take_past.ensures

pub take_pending-requires : goal.take_pending-requires
take_pending-requires c =
    let p = pending_stands _ _ c.requires _ c.in-Some.ensures in
    record { entry_ok = c.requires; position_value = (p.0, omega (arith, p.1)) }

pub returns-in-Some : goal.returns-in-Some
returns-in-Some c =
    let p = pending_stands _ _ c.requires _ c.in-Some.ensures in
    via (goes_pending _ _ _ _ _ _ c.generation-generation.ensures c.id-id.ensures c.in_ok-chosen_tested.ensures c.if-head-n.false p.1) c.take_pending.ensures

pub returns-in-None : goal.returns-in-None
returns-in-None c =
    via (goes_over _ _ _ _ _ _ c.generation-generation.ensures c.id-id.ensures c.in_ok-chosen_tested.ensures c.if-head-n.false (pending_absent _ _ c.requires c.in-None.ensures)) c.take_over.ensures
