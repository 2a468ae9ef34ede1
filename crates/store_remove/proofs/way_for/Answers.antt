-- `store_remove::way_for` meets its contract: each return is a way through its tests.
use native.Mathlib.Omega.{arith}
use Rattle.refusal.specs.Laws.{handed_up}
use Rattle.store_moves.specs.declared.target.Change.TheVariants.{Taken}
use Rattle.store_moves.proofs.Owning.{found_small}
use Rattle.store_remove.proofs.Testing.{not_held, no_target, cannot, goes}
use Rattle.store_remove.proofs.way_for.Goals as goal

pub returns-in_default : goal.returns-in_default
returns-in_default c = not_held _ c.requires.entered _ _ c.requires.span_value.0 _ c.requires.span_value.1 _ c.part_of-own.ensures _ _ c.find.ensures c.in_default.is

pub returns-in_default-target_of : goal.returns-in_default-target_of
returns-in_default-target_of c = no_target _ c.requires.entered _ _ c.requires.span_value.0 _ c.requires.span_value.1 _ c.part_of-own.ensures _ _ c.find.ensures _ c.in-Some.is _ c.target_of.ensures c.in_default-target_of.is

pub returns-in_err-move_tested : goal.returns-in_err-move_tested
returns-in_err-move_tested c = handed_up _ _ c.from_residual.ensures.1 (cannot _ c.requires.entered _ _ c.requires.span_value.0 _ c.requires.span_value.1 _ c.part_of-own.ensures _ _ c.find.ensures _ c.in-Some.is _ c.target_of.ensures _ c.in-Some-target_of.is c.in_err-move_tested.ensures)

pub overflow_cast-result : goal.overflow_cast-result
overflow_cast-result c = omega (arith, found_small _ c.requires.entered _ _ c.requires.span_value.0 _ c.part_of-own.ensures Taken _ _ c.target_of.ensures _ c.in-Some-target_of.is)

pub returns : goal.returns
returns c = goes _ c.requires.entered _ _ c.requires.span_value.0 _ c.requires.span_value.1 _ c.part_of-own.ensures _ _ c.find.ensures _ c.in-Some.is _ c.target_of.ensures _ c.in-Some-target_of.is c.in_ok-move_tested.ensures
