-- `store_moves::move_tested` meets its contract: each return is a way through its tests.
use mathlib.Core.Path.{sym, ◌∙◌}
use Rattle.store_moves.proofs.Testing.{held, no_row, moved_damaged_lem, passes}
use Rattle.store_moves.proofs.tests.move_tested.Goals as goal

pub returns-then-any_held : goal.returns-then-any_held
returns-then-any_held c = held _ _ _ _ _ (sym c.any_held.ensures ∙ c.if-any_held.true)

pub returns-then-at : goal.returns-then-at
returns-then-at c = no_row _ _ _ _ _ (sym c.any_held.ensures ∙ c.if-any_held.false) _ _ c.at.ensures c.at-2.ensures c.if-at.true

pub returns-then-is_moved_damaged : goal.returns-then-is_moved_damaged
returns-then-is_moved_damaged c = moved_damaged_lem _ _ _ _ _ (sym c.any_held.ensures ∙ c.if-any_held.false) _ _ c.at.ensures c.at-2.ensures c.if-at.false _ c.is_moved_damaged.ensures c.if-is_moved_damaged.true

pub returns : goal.returns
returns c = passes _ _ _ _ _ (sym c.any_held.ensures ∙ c.if-any_held.false) _ _ c.at.ensures c.at-2.ensures c.if-at.false _ c.is_moved_damaged.ensures c.if-is_moved_damaged.false
