-- `cells::copies` meets its contract: by the order of the two runs, each return rewrites with what the tests said.
use mathlib.Core.Path.{sym, ◌∙◌}
use Rattle.cells.proofs.Laws.{upwards, downwards}
use Rattle.cells.proofs.copies.Goals as goal

pub returns-then-within : goal.returns-then-within
returns-then-within c = rw (upwards _ _ _ _ c.if-from-to.true, sym c.within.ensures ∙ c.if-within.true) c.within-then-within.ensures

pub returns-else-within : goal.returns-else-within
returns-else-within c = rw (upwards _ _ _ _ c.if-from-to.true, sym c.within.ensures ∙ c.if-within.false) c.if-within.false

pub returns-then-within-2 : goal.returns-then-within-2
returns-then-within-2 c = rw (downwards _ _ _ _ c.if-from-to.false, sym c.within-2.ensures ∙ c.if-within-2.true) c.within-then-within-2.ensures

pub returns-else-within-2 : goal.returns-else-within-2
returns-else-within-2 c = rw (downwards _ _ _ _ c.if-from-to.false, sym c.within-2.ensures ∙ c.if-within-2.false) c.if-within-2.false
