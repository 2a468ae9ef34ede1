-- `columns::ids_tested` meets its contract: the entry's tests, then the archetype's.
use borrow.Author.Tests.{le-leb, lt-leb}
use Rattle.refusal.specs.Laws.{handed_up}
use Rattle.refusal.specs.Chain.{stop, go, applies, onward, through}
use Rattle.columns.specs.Calls.{ids_rules}
use Rattle.columns.proofs.listing.ids_tested.Goals as goal

pub returns-in_err-tested : goal.returns-in_err-tested
unfolding ids_rules
returns-in_err-tested c = handed_up _ _ c.from_residual.ensures.1 (stop _ _ c.in_err-tested.ensures)

pub returns-then-declaration-archetype : goal.returns-then-declaration-archetype
unfolding ids_rules
returns-then-declaration-archetype c = go _ _ c.in_ok-tested.ensures (applies 6 _ (le-leb _ _ c.if-declaration-archetype.true))

pub returns : goal.returns
unfolding ids_rules
returns c = go _ _ c.in_ok-tested.ensures (onward 6 _ (lt-leb _ _ c.if-declaration-archetype.false) through)
