-- `borrow_word::unique_release` meets its contract: a mask of 63 ones takes the remainder by 2 ^ 63.
use Prim.Native.Nat.{◌/◌, ◌^◌}
use mathlib.Core.Path.{ap}
use native.Mathlib.Omega.{arith}
use lib.Bits.{and_mask}
use borrow.Author.Tests.{eq-eqb}
use Rattle.refusal.specs.Table.{granted, ◌or_else◌}
use Rattle.borrow_word.specs.Word.{unique_released_word}
use Rattle.borrow_word.proofs.unique_release.Goals as goal

pub returns-then-word-eq0 : goal.returns-then-word-eq0
unfolding unique_released_word ◌or_else◌
returns-then-word-eq0 c = simp c.if-word-eq0.true

pub returns : goal.returns
unfolding unique_released_word ◌or_else◌
returns c = simp (eq-eqb (c.args.word / 2 ^ 63) 1 (omega arith)) (ap granted (and_mask c.args.word 63))
