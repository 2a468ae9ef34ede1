-- `store_spawn::spawn` meets its contract: its tests refuse, or a row is taken.
use mathlib.Core.Path.{refl}
use Rattle.refusal.specs.Laws.{refuse, handed_up_by}
use Rattle.store_spawn.proofs.Taking.{refused_so}
use Rattle.store_spawn.proofs.spawn.Goals as goal

pub returns-in_err-span : goal.returns-in_err-span
returns-in_err-span c = rw (handed_up_by _ _ _ c.from_residual.ensures.1 refl) (refuse (refused_so _ _ _ _ c.in_err-span.ensures))
