-- `columns::width_tested` meets its contract: only of an archetype that is declared is the row's width compared.
use Rattle.columns.proofs.Tests.{width_untested, width_wrong, width_right}
use Rattle.columns.proofs.removing.width_tested.Goals as goal

pub returns-then-declaration-archetype : goal.returns-then-declaration-archetype
returns-then-declaration-archetype c = width_untested _ _ _ c.if-declaration-archetype.true

pub returns-then-len-span : goal.returns-then-len-span
returns-then-len-span c = width_wrong _ _ _ c.requires c.if-declaration-archetype.false _ c.span.ensures c.if-len-span.true

pub returns : goal.returns
returns c = width_right _ _ _ c.requires c.if-declaration-archetype.false _ c.span.ensures c.if-len-span.false
