use Rattle.std.proofs.Common.{arith}
use Rattle.std.proofs.lemmas.List.{length_push}
use Rattle.std.proofs.lemmas.Slice.Zip.{zip_turn, zip_end}
use Rattle.decl.proofs.Glancing.{going_next, going_end}
use Rattle.decl.proofs.quick.width_of.Goals as goal

pub loop-x-preserved : goal.loop-x-preserved
loop-x-preserved c =
    let turn = zip_turn c.args.types.now c.args.sizes.now c.loop-x.yielded _ c.loop-x.x-iterator c.next.new.self c.next.result (cc) (cc) c.loop-x.yielded_by _ c.in-Some.is c.next.ensures.steps in
    let kind = turn.2 0 in
    let size = turn.3 0 in
    rw (length_push c.loop-x.yielded (c.in-Some.field-0-0, c.in-Some.field-0-1), kind, size)
    (going_next _ _ _ _ c.loop-x.invariant turn.0 (omega (arith, c.requires)) (omega (arith, kind, c.if-x-least.false)) (omega (arith, size, c.if-s-gt-SIZE.false)))

pub returns : goal.returns
returns c =
    let end = zip_end c.args.types.now c.args.sizes.now c.loop-x.yielded _ c.loop-x.x-iterator c.next.new.self c.next.result (cc) (cc) c.loop-x.yielded_by c.in-None.is c.next.ensures.steps in
    record { told = going_end _ _ _ _ c.loop-x.invariant (omega (arith, end, c.requires)) (omega (arith, end, c.requires)) }
