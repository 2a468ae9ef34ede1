-- The high half is mixed, and then the low half.
use Rattle.replay_line.specs.Tables.{mixed_word}
use Rattle.replay_line.proofs.digests.mix_word.Goals as goal

pub returns : goal.returns
unfolding mixed_word
returns c = rw (c.mix-2.ensures, c.mix.ensures, c.low.ensures, c.low-2.ensures)
