-- `columns::ids_part` meets its contract: the part that `ids` answers, or none.
use Prim.Native.Nat.{◌+◌, ◌≤◌}
use native.Mathlib.Omega.{arith}
use lib.ListN.{length}
use Rattle.columns.proofs.Answers.{ids_empty, ids_fit, ids_lent}
use Rattle.columns.proofs.listing.ids_part.Goals as goal

pub returns-in_default : goal.returns-in_default
returns-in_default c = ids_empty _ _ _ c.in_default.ensures

-- the part is within the table
pub overflow_add-result : goal.overflow_add-result
overflow_add-result c =
    let inside : c.in-Ok.start + c.in-Ok.count ≤ length c.args.numbers.now = ids_fit _ _ _ _ _ c.in-Ok.ensures in
    omega (arith, inside)

pub offset_bounds-numbers-start : goal.offset_bounds-numbers-start
offset_bounds-numbers-start c =
    let inside : c.in-Ok.start + c.in-Ok.count ≤ length c.args.numbers.now = ids_fit _ _ _ _ _ c.in-Ok.ensures in
    omega (arith, inside)

pub slice_bounds-result-end-2 : goal.slice_bounds-result-end-2
slice_bounds-result-end-2 c =
    let inside : c.in-Ok.start + c.in-Ok.count ≤ length c.args.numbers.now = ids_fit _ _ _ _ _ c.in-Ok.ensures in
    omega (arith, inside)

pub returns : goal.returns
returns c = ids_lent _ _ _ _ _ c.in-Ok.ensures
