-- A digit, the end of a number, or one that has no place.
use Rattle.std.proofs.Common.{arith}
use Rattle.replay_line.proofs.Bytes.{on_digit, on_end, on_full}
use Rattle.replay_line.proofs.text.step.Goals as goal

pub returns-in-Some : goal.returns-in-Some
returns-in-Some c =
    on_digit c.args.out.now c.args.told.count c.args.told.value _ _ c.in-Some.ensures.value _ c.in-Some.ensures.small c.with_digit.ensures

pub returns-then-count-out : goal.returns-then-count-out
returns-then-count-out c =
    on_end c.args.out.now c.args.told.count c.args.told.value _ 16 c.in_default.ensures.value (omega arith) c.if-count-out.true

pub returns : goal.returns
returns c =
    on_full c.args.out.now c.args.told.count c.args.told.value _ 16 c.in_default.ensures.value (omega arith) c.if-count-out.false
