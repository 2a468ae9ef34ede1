-- Table after table.
use Rattle.replay_store_line.specs.Store.{kept_all}
use Rattle.replay_store_line.proofs.keep.Goals as goal

pub returns : goal.returns
unfolding kept_all
returns c =
    rw (c.keep_table-9.ensures, c.keep_table-8.ensures, c.keep_table-7.ensures, c.keep_table-6.ensures, c.keep_table-5.ensures, c.keep_table-4.ensures, c.keep_table-3.ensures, c.keep_table-2.ensures, c.keep_table.ensures)
