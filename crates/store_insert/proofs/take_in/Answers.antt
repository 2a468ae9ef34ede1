-- `store_insert::take_in` meets its contract: the row's bytes with the value go with its number to the target.
use mathlib.Core.Path.{refl}
use native.Mathlib.Omega.{arith}
use Rattle.store_moves.proofs.Moving.{column_small, took_in}
use Rattle.store_insert.proofs.take_in.Goals as goal

pub overflow_add-there : goal.overflow_add-there
overflow_add-there c = omega (arith, column_small _ _ _ _ _ c.requires.moving _ _ c.requires.span_value.0 c.span-there.ensures _ _ c.requires.target_value.0 c.requires.span_value.1)

pub returns : goal.returns
returns c = took_in _ _ _ _ _ c.requires.moving _ _ c.requires.span_value.0 c.span-there.ensures _ _ _ _ _ c.requires.target_value.0 c.requires.target_value.1 _ c.requires.span_value.1 _ refl _ c.at-size.ensures _ c.gather.ensures _ c.move_row.ensures
