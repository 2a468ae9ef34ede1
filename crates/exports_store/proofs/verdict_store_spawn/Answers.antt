-- `exports_store::verdict_store_spawn` meets its contract.
use Rattle.std.proofs.Common.{refl}
use Rattle.crossing.proofs.Telling.{told_by}
use Rattle.exports_store.proofs.Store.{crossed_store}
use Rattle.exports_store.proofs.verdict_store_spawn.Goals as goal

pub returns : goal.returns
returns c = rw (← c.head_of-left.ensures) (crossed_store c.spawn-answer.ensures (told_by _ (λ _. refl) _ c.cross.ensures) c.put_head.ensures)
