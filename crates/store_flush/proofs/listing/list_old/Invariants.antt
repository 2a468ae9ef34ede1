-- `store_flush::listing::list_old` meets its contract. The loop's invariant: what is left to write.
use lib.ListN.{length}
use Rattle.id_tables.specs.Runs.{up_from}
use Rattle.id_batches.proofs.Setting.{Rest}
use Rattle.store_flush.proofs.listing.list_old.Given as goal

abbrev pub invariant-loop-i : goal.invariant-loop-i
invariant-loop-i l = Rest l.initial.numbers l.numbers (up_from l.place (length l.old)) l.old l.i
