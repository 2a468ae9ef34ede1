-- `store_despawn::row_leaving` meets its contract: the entity is refused, or each return is a way through what is left to test.
use Rattle.refusal.specs.Laws.{handed_up}
use Rattle.store_despawn.proofs.Testing.{unfit, held, none_live, moved_damaged_lem, leaves}
use Rattle.store_despawn.proofs.row_leaving.Goals as goal

pub returns-in_err-span : goal.returns-in_err-span
returns-in_err-span c = handed_up _ _ c.from_residual.ensures.1 (unfit _ c.requires _ _ c.in_err-span.ensures)

pub returns-then-any_held : goal.returns-then-any_held
returns-then-any_held c = held _ c.requires _ _ _ _ c.in_ok-span.ensures c.if-any_held.ensures

pub returns-then-head-eq0 : goal.returns-then-head-eq0
returns-then-head-eq0 c = none_live _ c.requires _ _ _ _ c.in_ok-span.ensures c.if-any_held.ensures c.if-head-eq0.true

pub returns-then-is_moved_damaged : goal.returns-then-is_moved_damaged
returns-then-is_moved_damaged c = moved_damaged_lem _ c.requires _ _ _ _ c.in_ok-span.ensures c.if-any_held.ensures c.if-head-eq0.false _ c.is_moved_damaged.ensures c.if-is_moved_damaged.true

pub returns : goal.returns
returns c = leaves _ c.requires _ _ _ _ c.in_ok-span.ensures c.if-any_held.ensures c.if-head-eq0.false _ c.is_moved_damaged.ensures c.if-is_moved_damaged.false
