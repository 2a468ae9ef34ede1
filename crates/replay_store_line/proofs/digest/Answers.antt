-- Table after table.
use Rattle.replay_store_line.specs.Store.{digest_of}
use Rattle.replay_store_line.proofs.digest.Goals as goal

pub returns : goal.returns
unfolding digest_of
returns c =
    rw (c.digest_words.ensures, c.part-7.ensures, c.digest_low-sum-5.ensures, c.part-6.ensures, c.digest_low-sum-4.ensures, c.part-5.ensures, c.counts_lent.ensures.value, c.digest_low-sum-3.ensures, c.part-4.ensures, c.digest_low-sum-2.ensures, c.part-3.ensures, c.pending_lent.ensures.value, c.digest_low-sum.ensures, c.part-2.ensures, c.digest_words-sum.ensures, c.part.ensures)
