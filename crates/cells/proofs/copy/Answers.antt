-- `cells::copy` meets its contract: what `copies` said of the two runs decides.
use mathlib.Core.Path.{sym, ◌∙◌}
use Rattle.cells.proofs.Laws.{copies_told, copied_fits, copied_past}
use Rattle.cells.proofs.copy.Goals as goal

pub copy_within-requires : goal.copy_within-requires
copy_within-requires c = copies_told _ _ _ _ (sym c.copies.ensures ∙ c.if-copies.true)

pub returns-then-copies : goal.returns-then-copies
returns-then-copies c =
    c.copy_within.ensures
    ∙ sym (copied_fits _ _ _ _ (copies_told _ _ _ _ (sym c.copies.ensures ∙ c.if-copies.true)))

pub returns-else-copies : goal.returns-else-copies
returns-else-copies c = sym (copied_past _ _ _ _ (sym c.copies.ensures ∙ c.if-copies.false))
