-- `store_remove::take_out` meets its contract: the row's bytes without the column go with its number to the target.
use mathlib.Core.Path.{refl}
use native.Mathlib.Omega.{arith}
use Rattle.store_moves.proofs.Moving.{next_small, took_out}
use Rattle.store_remove.proofs.take_out.Goals as goal

pub overflow_add-column : goal.overflow_add-column
overflow_add-column c = omega (arith, next_small _ _ _ _ _ c.requires.moving _ _ c.requires.span_value.0 c.span-there.ensures _ c.requires.span_value.1)

pub returns : goal.returns
returns c = took_out _ _ _ _ _ c.requires.moving _ _ c.requires.span_value.0 c.span-there.ensures _ _ _ _ c.requires.span_value.1 c.requires.span_value.2 _ refl _ c.gather.ensures _ c.move_row.ensures
