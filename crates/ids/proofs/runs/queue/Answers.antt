use Prim.Native.Nat.{◌+◌, ◌-◌}
use mathlib.Core.Path.{◌≡◌, sym, ◌∙◌}
use native.Mathlib.Omega.{arith}
use Rattle.ids.proofs.Stepping.{queue_one, queue_none}
use Rattle.ids.proofs.runs.queue.Goals as goal

pub loop-number-preserved : goal.loop-number-preserved
loop-number-preserved c =
    let e : c.args.count + (c.loop-number.number + 1 - c.args.from) ≡ c.args.count + (c.loop-number.number - c.args.from) + 1 = omega arith in
    rw e (c.loop-number.invariant ∙ queue_one _ _ _ _ c.loop-number-test.true)

pub returns : goal.returns
returns c = sym (c.loop-number.invariant ∙ queue_none _ _ _ _ c.loop-number-test.false)
