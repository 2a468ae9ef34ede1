-- `store_despawn::despawn` meets its contract: its tests refuse, or the row has left.
use mathlib.Core.Path.{refl}
use Rattle.refusal.specs.Laws.{refuse, handed_up}
use Rattle.store_despawn.proofs.Ending.{refused_so, refuses_not, ends}
use Rattle.store_despawn.proofs.despawn.Goals as goal

pub returns-in_err-span : goal.returns-in_err-span
returns-in_err-span c = rw (handed_up _ _ c.from_residual.ensures.1 refl) (refuse (refused_so _ _ _ c.in_err-span.ensures))

pub returns-in_err-leave : goal.returns-in_err-leave
returns-in_err-leave c = absurd (refuses_not _ _ _ _ c.in_ok-span.ensures c.in_err-leave.ensures)

pub returns : goal.returns
returns c = ends _ _ _ _ c.in_ok-span.ensures c.in_ok-leave.ensures
