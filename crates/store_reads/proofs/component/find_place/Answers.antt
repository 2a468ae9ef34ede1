-- `store_reads::find_place` meets its contract: what get says of the handle, then what its row holds.
use Rattle.refusal.specs.Laws.{handed_up}
use Rattle.store_reads.proofs.Locating.{seen_absent, seen_reserved, seen_damaged, seen_held}
use Rattle.store_reads.proofs.component.find_place.Goals as goal

pub returns-in_err-place : goal.returns-in_err-place
returns-in_err-place c = handed_up _ _ c.from_residual.ensures.1 (seen_absent _ _ _ _ _ _ c.in_err-place.ensures)

pub returns-then-place : goal.returns-then-place
returns-then-place c = seen_reserved _ _ _ _ _ _ _ c.in_ok-place.ensures c.if-place.true

pub returns-in_default : goal.returns-in_default
returns-in_default c = seen_damaged _ _ _ _ _ _ _ c.in_ok-place.ensures c.if-place.false _ c.id.ensures _ c.own_place.ensures c.in_default.is

pub returns : goal.returns
returns c = seen_held _ _ _ _ _ _ _ c.in_ok-place.ensures c.if-place.false _ c.id.ensures _ c.own_place.ensures _ c.in-Some.is
