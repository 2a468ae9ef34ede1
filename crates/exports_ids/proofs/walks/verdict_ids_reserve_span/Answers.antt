-- `exports_ids::walks::verdict_ids_reserve_span` meets its contract: the call's promise, crossed.
use borrow.Author.Rules.{rules}
use Rattle.id_readers.proofs.Heads.{spanned_head}
use Rattle.crossing.proofs.Headed.{crossed_headed}
use Rattle.exports_ids.proofs.walks.verdict_ids_reserve_span.Goals as goal

pub returns : goal.returns
returns c = crossed_headed (spanned_head _ _) (rw c.lent-ids.ensures at c.reserve_span-answer.ensures) c.put_head.ensures (search rules)
