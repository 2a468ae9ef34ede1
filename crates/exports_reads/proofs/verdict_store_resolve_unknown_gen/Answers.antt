-- `exports_reads::verdict_store_resolve_unknown_gen` meets its contract.
use Rattle.std.proofs.Common.{refl}
use Rattle.crossing.proofs.Telling.{retold, told_by}
use Rattle.exports_reads.proofs.verdict_store_resolve_unknown_gen.Goals as goal

pub returns : goal.returns
returns c = rw (← c.head_of.ensures) (retold c.resolve_unknown_gen-answer.ensures (told_by _ (λ _. refl) _ c.cross.ensures))
