-- `exports_ids::numbers::verdict_ids_reserve_entity` meets its contract: the call's promise, crossed.
use mathlib.Core.Path.{refl}
use Rattle.crossing.proofs.Telling.{told_by}
use Rattle.ids.proofs.Heads.{reserved_head}
use Rattle.crossing.proofs.Headed.{crossed_headed}
use Rattle.exports_ids.proofs.numbers.verdict_ids_reserve_entity.Goals as goal

pub returns : goal.returns
returns c = crossed_headed (reserved_head _) (rw c.lent-ids.ensures at c.reserve_entity-answer.ensures) c.put_head.ensures (told_by (λ h. h.0) (λ h. refl) _ c.cross.ensures)
