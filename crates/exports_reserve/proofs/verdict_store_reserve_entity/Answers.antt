-- `exports_reserve::verdict_store_reserve_entity` meets its contract.
use Rattle.std.proofs.Common.{refl}
use Rattle.crossing.proofs.Telling.{told_by}
use Rattle.store_reserve.proofs.Heads.{reserved_head}
use Rattle.exports_reserve.proofs.Headed.{crossed_headed}
use Rattle.exports_reserve.proofs.verdict_store_reserve_entity.Goals as goal

pub returns : goal.returns
returns c = rw (← c.head_of.ensures) (crossed_headed (reserved_head _) c.reserve_entity-answer.ensures c.put_head.ensures (told_by _ (λ _. refl) _ c.cross.ensures))
