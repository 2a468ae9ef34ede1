-- `decl::Declaration::column_of` meets its contract: the declaration's tests, the archetype's, then what the search finds.
use mathlib.Core.Path.{sym, ◌∙◌}
use native.Mathlib.Omega.{arith}
use lib.ListN.{length-take}
use lib.Seq.{length-take-le}
use Rattle.refusal.specs.Laws.{handed_up}
use Rattle.decl.specs.Lists.{first_of}
use Rattle.decl.proofs.Keeping.{declared_room}
use Rattle.decl.proofs.Looking.{look_halts, look_place, look_found, held_told}
use Rattle.decl.proofs.Declaration.column_of.Goals as goal

pub returns-in_err-tested : goal.returns-in_err-tested
returns-in_err-tested c = handed_up _ _ c.from_residual.ensures.1 (look_halts _ _ _ c.in_err-tested.ensures)

pub returns-then-self-archetype : goal.returns-then-self-archetype
returns-then-self-archetype c = look_place _ _ _ c.in_ok-tested.ensures c.if-self-archetype.true

pub slice_bounds-total-end : goal.slice_bounds-total-end
slice_bounds-total-end c = sym (length-take-le _ _ (omega (arith, declared_room _ c.in_ok-tested.ensures)))

pub total-at-requires : goal.total-at-requires
total-at-requires c = omega (arith, declared_room _ c.in_ok-tested.ensures, length-take c.args.archetype c.args.self.now.widths.now)

pub end_of-end-requires : goal.end_of-end-requires
unfolding first_of
end_of-end-requires c =
    let room = declared_room _ c.in_ok-tested.ensures in
    (omega arith, c.total-at.ensures.0, omega arith)

pub offset_bounds-self-at : goal.offset_bounds-self-at
offset_bounds-self-at c = omega (arith, declared_room _ c.in_ok-tested.ensures)

pub slice_bounds-find-end : goal.slice_bounds-find-end
slice_bounds-find-end c = omega (arith, declared_room _ c.in_ok-tested.ensures)

pub returns : goal.returns
unfolding first_of
returns c =
    held_told _ c.ok_or.ensures.value
    ∙ look_found _ _ _ c.in_ok-tested.ensures c.if-self-archetype.false _ _ _ c.total-at.ensures.0 c.end_of-end.ensures.0 c.find.ensures
