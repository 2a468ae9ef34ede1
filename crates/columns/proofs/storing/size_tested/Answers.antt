-- `columns::size_tested` meets its contract: only of an archetype that is declared is the size of a type compared.
use mathlib.Core.Path.{sym, ◌∙◌}
use Rattle.columns.proofs.Tests.{size_untested, size_wrong, size_right}
use Rattle.columns.proofs.storing.size_tested.Goals as goal

pub returns-then-declaration-archetype : goal.returns-then-declaration-archetype
returns-then-declaration-archetype c = size_untested _ _ _ _ _ _ c.if-declaration-archetype.true

pub returns-then-wrong_size : goal.returns-then-wrong_size
returns-then-wrong_size c = size_wrong _ _ _ _ _ _ c.if-declaration-archetype.false (sym c.wrong_size.ensures ∙ c.if-wrong_size.true)

pub returns : goal.returns
returns c = size_right _ _ _ _ _ _ (sym c.wrong_size.ensures ∙ c.if-wrong_size.false)
