-- `id_batches::many::AllocManyState::next` meets its contract: each return is a way through its rule.
use mathlib.Core.Path.{sym}
use borrow.Author.Tests.{ltb-false}
use Rattle.refusal.specs.Laws.{refuse, grant}
use Rattle.id_batches.proofs.Ways.{walk_short, walk_old, walk_new, walk_done}
use Rattle.id_batches.proofs.many.AllocManyState.next.Goals as goal

pub returns-in_default : goal.returns-in_default
returns-in_default c = refuse (walk_short _ _ c.if-self.true (ltb-false _ _ (sym c.in_default.ensures.lookup.0)))

pub returns-then-self : goal.returns-then-self
returns-then-self c =
    let found = c.in-Some.ensures.lookup.3 in
    rw (found.1 0) (grant (walk_old _ _ c.if-self.true found.0))

pub returns-then-self-2 : goal.returns-then-self-2
returns-then-self-2 c = grant (walk_new _ _ c.if-self.false c.if-self-2.true)

pub returns : goal.returns
returns c = grant (walk_done _ _ c.if-self.false c.if-self-2.false)
