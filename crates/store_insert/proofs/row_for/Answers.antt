-- `store_insert::row_for` meets its contract: the first tests, the bits, the entity, then the ways.
use mathlib.Core.Path.{◌∙◌}
use Rattle.store_insert.proofs.Calling.{refuses, insert_first, insert_zero, unplaced, placed}
use Rattle.store_insert.proofs.Coming.{stays}
use Rattle.store_insert.proofs.row_for.Goals as goal

pub returns-in_err-tested : goal.returns-in_err-tested
returns-in_err-tested c = refuses _ _ _ _ _ _ c.from_residual.ensures.1 (insert_first _ _ _ _ _ c.wrong_size-short.ensures c.in_err-tested.ensures)

pub returns-in_default : goal.returns-in_default
returns-in_default c = insert_zero _ _ _ _ _ c.wrong_size-short.ensures c.in_ok-tested.ensures _ c.from_bits.ensures _ c.in_default.is

pub returns-in_err-span : goal.returns-in_err-span
returns-in_err-span c =
    refuses _ _ _ _ _ _ c.from_residual-in_err-span.ensures.1
    (unplaced _ _ _ _ _ c.wrong_size-short.ensures c.in_ok-tested.ensures _ c.from_bits.ensures _ c.in-Ok.is c.in_err-span.ensures)

pub way_for-requires : goal.way_for-requires
way_for-requires c =
    let p = placed _ c.args.bits c.args.kind c.args.value.now _ c.wrong_size-short.ensures c.in_ok-tested.ensures _ c.from_bits.ensures _ c.in-Ok.is _ _ c.in_ok-span.ensures _ c.id-number.ensures in
    record { entered = p.entered; span_value = (p.span_is, p.place_is) }

pub returns-in_err-way : goal.returns-in_err-way
returns-in_err-way c =
    let p = placed _ c.args.bits c.args.kind c.args.value.now _ c.wrong_size-short.ensures c.in_ok-tested.ensures _ c.from_bits.ensures _ c.in-Ok.is _ _ c.in_ok-span.ensures _ c.id-number.ensures in
    refuses _ _ _ _ _ _ c.from_residual-in_err-way.ensures.1 (p.rule ∙ stays _ _ _ _ _ c.in_err-way.ensures)

pub returns : goal.returns
returns c = (placed _ _ _ _ _ c.wrong_size-short.ensures c.in_ok-tested.ensures _ c.from_bits.ensures _ c.in-Ok.is _ _ c.in_ok-span.ensures _ c.id-number.ensures, c.in_ok-way.ensures)
