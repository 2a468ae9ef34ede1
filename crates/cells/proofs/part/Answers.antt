-- `cells::part` meets its contract: what `within` said of the run decides.
-- the run lies within the bytes
use mathlib.Core.Path.{sym, ◌∙◌}
use borrow.Author.Tests.{leb-true, leb-false}
use Rattle.cells.proofs.Laws.{part_slice, part_past}
use Rattle.cells.proofs.part.Goals as goal

pub returns-then-within : goal.returns-then-within
returns-then-within c = part_slice _ _ _ (leb-true _ _ (sym c.within.ensures ∙ c.if-within.true))

pub returns : goal.returns
returns c = sym (part_past _ _ _ (leb-false _ _ (sym c.within.ensures ∙ c.if-within.false)))
