-- The sum is the rule's.
use Rattle.std.proofs.Common.{refl}
use Rattle.replay_line.specs.Text.{with_digit}
use Rattle.replay_line.proofs.text.with_digit.Goals as goal

pub returns : goal.returns
unfolding with_digit
returns c = refl
