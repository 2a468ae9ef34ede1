-- `store_insert::way_for` meets its contract: each return is a way through its tests.
use mathlib.Core.Path.{sym, ◌∙◌}
use native.Mathlib.Omega.{arith}
use Rattle.refusal.specs.Laws.{handed_up}
use Rattle.store_moves.specs.declared.target.Change.TheVariants.{Added}
use Rattle.store_moves.proofs.Owning.{found_small}
use Rattle.store_insert.proofs.Testing.{held, over, no_target, cannot, goes}
use Rattle.store_insert.proofs.way_for.Goals as goal

pub returns-then-any_held : goal.returns-then-any_held
returns-then-any_held c = held _ c.requires.entered _ _ c.requires.span_value.0 _ c.part_of-own.ensures _ _ c.find.ensures _ c.in-Some.is (sym c.any_held.ensures ∙ c.if-any_held.true)

pub returns-in-Some : goal.returns-in-Some
returns-in-Some c = over _ c.requires.entered _ _ c.requires.span_value.0 _ c.part_of-own.ensures _ _ c.find.ensures _ c.in-Some.is (sym c.any_held.ensures ∙ c.if-any_held.false)

pub returns-in_default-target_of : goal.returns-in_default-target_of
returns-in_default-target_of c = no_target _ c.requires.entered _ _ c.requires.span_value.0 _ c.part_of-own.ensures _ _ c.find.ensures c.in_default.is _ c.types_before-column.ensures _ c.target_of.ensures c.in_default-target_of.is

pub returns-in_err-move_tested : goal.returns-in_err-move_tested
returns-in_err-move_tested c = handed_up _ _ c.from_residual.ensures.1 (cannot _ c.requires.entered _ _ c.requires.span_value.0 _ c.part_of-own.ensures _ _ c.find.ensures c.in_default.is _ c.types_before-column.ensures _ c.target_of.ensures _ c.in-Some-target_of.is _ c.requires.span_value.1 c.in_err-move_tested.ensures)

pub overflow_cast-result : goal.overflow_cast-result
overflow_cast-result c = omega (arith, found_small _ c.requires.entered _ _ c.requires.span_value.0 _ c.part_of-own.ensures (Added _) _ _ c.target_of.ensures _ c.in-Some-target_of.is)

pub returns : goal.returns
returns c = goes _ c.requires.entered _ _ c.requires.span_value.0 _ c.part_of-own.ensures _ _ c.find.ensures c.in_default.is _ c.types_before-column.ensures _ c.target_of.ensures _ c.in-Some-target_of.is _ c.requires.span_value.1 c.in_ok-move_tested.ensures
