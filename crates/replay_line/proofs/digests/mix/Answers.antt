-- The sum is the rule's.
use Rattle.std.proofs.Common.{refl}
use Rattle.replay_line.specs.Tables.{mixed}
use Rattle.replay_line.proofs.digests.mix.Goals as goal

pub returns : goal.returns
unfolding mixed
returns c = refl
