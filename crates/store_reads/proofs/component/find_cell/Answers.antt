-- `store_reads::find_cell` meets its contract: the column that the search finds in the archetype's own types, and the row's cell in it.
use Prim.Native.Nat.{◌+◌, ◌<◌}
use native.Mathlib.Omega.{arith}
use lib.ListN.{length, length-take}
use Rattle.store_reads.proofs.Cells.{cell_missing, word_fits, size_within, cell_named}
use Rattle.store_reads.proofs.component.find_cell.Goals as goal

pub returns-in_default : goal.returns-in_default
returns-in_default c = cell_missing _ _ c.requires.kept _ c.requires.row_in.span_is _ _ (rw c.part_of.ensures at c.find.ensures) _ c.in_default.is

pub offset_bounds-sizes-j : goal.offset_bounds-sizes-j
offset_bounds-sizes-j c =
    let within : c.in-Some.j < length c.part_of-sizes.result.now = size_within _ _ c.requires.kept _ c.requires.row_in.span_is _ _ (rw c.part_of.ensures at c.find.ensures) _ c.in-Some.is _ c.part_of-sizes.ensures in
    omega (arith, within)

pub bounds-sizes-j : goal.bounds-sizes-j
bounds-sizes-j c = size_within _ _ c.requires.kept _ c.requires.row_in.span_is _ _ (rw c.part_of.ensures at c.find.ensures) _ c.in-Some.is _ c.part_of-sizes.ensures

pub slice_bounds-past-end : goal.slice_bounds-past-end
slice_bounds-past-end c =
    let within : c.in-Some.j < length c.part_of-sizes.result.now = size_within _ _ c.requires.kept _ c.requires.row_in.span_is _ _ (rw c.part_of.ensures at c.find.ensures) _ c.in-Some.is _ c.part_of-sizes.ensures in
    omega (arith, within, length-take c.in-Some.j c.part_of-sizes.result.now)

pub overflow_add-result : goal.overflow_add-result
overflow_add-result c =
    let within : c.args.span.column + c.in-Some.j < length c.args.declaration.now.types.now = word_fits _ _ c.requires.kept _ c.requires.row_in.span_is _ _ (rw c.part_of.ensures at c.find.ensures) _ c.in-Some.is in
    omega (arith, within)

pub returns : goal.returns
returns c =
    cell_named _ _ c.requires.kept _ c.requires.row_in.span_is _ _ (rw c.part_of.ensures at c.find.ensures) _ c.in-Some.is _ c.part_of-sizes.ensures _
    c.requires.row_in.archetype_in c.requires.row_in.row_in _ _ c.past-here.ensures c.cell.ensures
