use mathlib.Core.Path.{ap}
use mathlib.Core.Bool.{not}
use native.Mathlib.Omega.{arith}
use borrow.Author.Tests.{not-false}
use Rattle.decl.proofs.Glancing.{going_next, marking_next, marked}
use Rattle.decl.proofs.quick.mark_of.Goals as goal

pub loop-p-preserved : goal.loop-p-preserved
loop-p-preserved c =
    let known = c.is_known.ensures (not-false _ (ap not c.if-not-is_known.false)) in (
      known.0,
      going_next _ _ _ _ c.loop-p.invariant.1 (omega arith) (omega (arith, c.requires.from_le_to)) c.if-x-least.false known.1,
      marking_next _ _ _ _ _ c.loop-p.invariant.2 (omega arith) c.requires.from_le_to.1,
    )

pub returns : goal.returns
returns c = record { told = marked _ _ _ _ c.loop-p.invariant.0 c.loop-p.invariant.1 c.loop-p.invariant.2 (omega arith) (omega arith) }
