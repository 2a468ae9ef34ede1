use mathlib.Core.Path.{refl, sym}
use native.Mathlib.Omega.{arith}
use Rattle.decl.proofs.Glancing.{passing_start, zeros}
use Rattle.decl.proofs.Counting.{counted_start, look_next}
use Rattle.decl.proofs.Measuring.{look_settles}
use Rattle.decl.proofs.quick.among.Goals as goal

pub loop-a-init : goal.loop-a-init
loop-a-init c = (counted_start _, passing_start _ _ _ _ _ _ refl refl (zeros 64) refl)

pub loop-a-preserved : goal.loop-a-preserved
loop-a-preserved c =
    let next = look_next _ c.loop-a.invariant.0 c.loop-a.invariant.1 c.in_ok-mark.ensures c.if-rows-a-gt-ROWS.false c.if-widths-a-gt-COLUMNS.false c.if-types-end.false
    (omega (arith, c.requires.1)) (c.is_among.ensures c.if-is_among.false) in
    (next.0, next.1)

pub returns : goal.returns
returns c =
    look_settles _ c.loop-a.invariant.0 c.loop-a.invariant.1 (omega (arith, c.loop-a-test.false)) c.requires.0 c.requires.1 c.requires.2 c.requires.3 (sym c.if-at-types.false) c.requires.4
