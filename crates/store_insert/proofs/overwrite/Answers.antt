-- `store_insert::overwrite` meets its contract: the cell of the component, and the value in it.
use native.Mathlib.Omega.{arith}
use Rattle.store_insert.proofs.Coming.{over_room, wrote}
use Rattle.store_insert.proofs.overwrite.Goals as goal

pub overflow_add-to : goal.overflow_add-to
overflow_add-to c = omega (arith, over_room _ c.requires.kept _ _ c.requires.span_value.0 _ _ c.requires.kind_value.0)

pub offset_bounds-declaration-from : goal.offset_bounds-declaration-from
offset_bounds-declaration-from c = omega (arith, over_room _ c.requires.kept _ _ c.requires.span_value.0 _ _ c.requires.kind_value.0)

pub slice_bounds-past-end : goal.slice_bounds-past-end
slice_bounds-past-end c = omega (arith, over_room _ c.requires.kept _ _ c.requires.span_value.0 _ _ c.requires.kind_value.0)

pub returns : goal.returns
returns c = wrote _ c.requires.kept _ _ _ c.requires.span_value.0 _ _ c.requires.kind_value.0 c.requires.span_value.1 c.requires.span_value.2 _ _ _ c.requires.span_value.3 c.requires.kind_value.1 _ _ c.at.ensures c.at-2.ensures _ _ c.past-here.ensures c.cell.ensures c.write.ensures
