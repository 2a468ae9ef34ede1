use native.Mathlib.Omega.{arith}
use borrow.Author.Rules.{rules}
use Rattle.decl.proofs.Merge.{walk_found, walk_both, walk_left, walk_right, walk_short, walk_differ, walk_same}
use Rattle.decl.proofs.exact.clash.Goals as goal

pub returns-then-ys-j : goal.returns-then-ys-j
returns-then-ys-j c = walk_short _ _ _ _ _ _ _ c.loop-i.invariant.2 c.loop-i-test.true c.if-ys-j.true

pub returns-then-ss-i : goal.returns-then-ss-i
returns-then-ss-i c =
    walk_found _ _ _ _ _ _ c.loop-i-test.true c.if-ys-j.false
    c.if-x-y.true c.if-ss-i.true

pub loop-i-preserved-then-x-y : goal.loop-i-preserved-then-x-y
loop-i-preserved-then-x-y c = (
  search rules,
  search rules,
  walk_both _ _ _ _ c.requires.0 c.requires.1
      _ _ _ c.loop-i.invariant.2 c.loop-i-test.true
      c.if-ys-j.false c.if-x-y.true c.if-ss-i.false,
)

pub loop-i-preserved-then-x-y-2 : goal.loop-i-preserved-then-x-y-2
loop-i-preserved-then-x-y-2 c = (
  search rules,
  search rules,
  walk_left _ _ _ _ c.requires.0 c.requires.1 _ _ _
      c.loop-i.invariant.2 c.loop-i-test.true c.if-ys-j.false
      c.if-x-y-2.true,
)

pub loop-i-preserved : goal.loop-i-preserved
loop-i-preserved c = (
  search rules,
  search rules,
  walk_right _ _ _ _ c.requires.0 c.requires.1 _ _ _
      c.loop-i.invariant.2 c.loop-i-test.true c.if-ys-j.false
      (omega arith),
)

pub returns-then-differ : goal.returns-then-differ
returns-then-differ c = walk_differ _ _ _ _ _ _ _ c.loop-i.invariant.2 c.loop-i-test.false c.if-differ.true

pub returns : goal.returns
returns c = walk_same _ _ _ _ _ _ _ c.loop-i.invariant.2 c.loop-i-test.false c.if-differ.false c.loop-i.invariant.1
