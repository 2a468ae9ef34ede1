-- `store_spawn_at::make_way` meets its contract: a row leaves where there is one.
use Rattle.store_spawn_at.proofs.Taking.{old_leaves, none_leaves}
use Rattle.store_spawn_at.proofs.make_way.Goals as goal

pub returns-in-Seated : goal.returns-in-Seated
returns-in-Seated c = old_leaves _ _ _ _ _ _ _ c.in-Seated.is c.vacate.ensures

pub returns-in_default : goal.returns-in_default
returns-in_default c = none_leaves _ _ _ _ c.in_default.not-Seated
