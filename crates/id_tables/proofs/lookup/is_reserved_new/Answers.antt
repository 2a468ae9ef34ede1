-- `id_tables::is_reserved_new` meets its contract: each return is a way through its rule.
use Rattle.std.proofs.Common.{sym}
use Rattle.id_tables.proofs.Laws.{new_below}
use Rattle.id_tables.proofs.Looking.{new_other, new_past}
use Rattle.id_tables.proofs.lookup.is_reserved_new.Goals as goal

pub returns-then-generation-ne1 : goal.returns-then-generation-ne1
returns-then-generation-ne1 c = sym (new_other _ _ _ c.if-generation-ne1.true)

pub returns-then-number-head : goal.returns-then-number-head
returns-then-number-head c = sym (new_below _ _ _ c.if-number-head.true)

pub returns : goal.returns
returns c = rw c.fresh.ensures (sym (new_past _ _ _ c.if-generation-ne1.false c.if-number-head.false))
