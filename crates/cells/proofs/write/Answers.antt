-- `cells::write` meets its contract: what `within` said of the run decides.
use mathlib.Core.Path.{sym, ◌∙◌}
use borrow.Author.Tests.{leb-true, leb-false}
use Rattle.cells.proofs.Laws.{written_fits, written_past}
use Rattle.cells.proofs.write.Goals as goal

pub write_within-requires : goal.write_within-requires
write_within-requires c = leb-true _ _ (sym c.within.ensures ∙ c.if-within.true)

pub returns-then-within : goal.returns-then-within
returns-then-within c =
    c.write_within.ensures
    ∙ sym (written_fits _ _ _ (leb-true _ _ (sym c.within.ensures ∙ c.if-within.true)))

pub returns-else-within : goal.returns-else-within
returns-else-within c = sym (written_past _ _ _ (leb-false _ _ (sym c.within.ensures ∙ c.if-within.false)))
