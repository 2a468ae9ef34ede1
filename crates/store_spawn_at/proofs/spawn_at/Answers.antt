-- `store_spawn_at::spawn_at` meets its contract: its tests refuse, or the number has settled.
use mathlib.Core.Path.{refl}
use Rattle.refusal.specs.Laws.{refuse, handed_up}
use Rattle.store_spawn_at.proofs.Taking.{refused_so, refuses_not, spawns}
use Rattle.store_spawn_at.proofs.spawn_at.Goals as goal

pub choice_for-requires : goal.choice_for-requires
choice_for-requires c = c.span-span.ensures

pub returns-in_err-number : goal.returns-in_err-number
returns-in_err-number c = rw (handed_up _ _ c.from_residual.ensures.1 refl) (refuse (refused_so _ _ _ _ _ c.in_err-number.ensures))

pub returns-in_err-settle : goal.returns-in_err-settle
returns-in_err-settle c = absurd (refuses_not _ _ _ _ _ _ c.in_ok-number.ensures _ c.span-span.ensures _ _ _ c.in_err-settle.ensures)

pub returns : goal.returns
returns c = spawns _ _ _ _ _ _ c.in_ok-number.ensures _ c.span-span.ensures _ _ _ c.in_ok-settle.ensures
