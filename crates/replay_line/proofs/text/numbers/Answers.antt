-- A step reads the next byte, and at the end there is none.
use Rattle.std.proofs.Common.{refl, rules}
use Rattle.replay_line.specs.Text.{read, read_from}
use Rattle.replay_line.proofs.Turns.{turned, ended}
use Rattle.replay_line.proofs.Bytes.{told}
use Rattle.replay_line.proofs.text.numbers.Goals as goal

pub loop-byte-init : goal.loop-byte-init
unfolding read_from
loop-byte-init c = (refl, refl)

pub loop-byte-preserved : goal.loop-byte-preserved
loop-byte-preserved c = (turned read _ _ _ _ 0 _ c.loop-byte-test.true c.loop-byte.invariant.0 c.step-told.ensures, search rules)

pub returns : goal.returns
returns c = told _ _ _ _ (ended read _ _ _ _ c.loop-byte-test.false c.loop-byte.invariant.0)
