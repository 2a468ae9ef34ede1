-- The low half is mixed.
use Rattle.replay_line.specs.Tables.{mixed_low}
use Rattle.replay_line.proofs.digests.mix_low.Goals as goal

pub returns : goal.returns
unfolding mixed_low
returns c = rw (c.mix.ensures, c.low.ensures)
