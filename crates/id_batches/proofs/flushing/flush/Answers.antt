-- `id_batches::flushing::flush` meets its contract: the first tests, then what is left.
use Rattle.refusal.specs.Laws.{via, halted, past}
use Rattle.id_tables.proofs.Entering.{entry_ok}
use Rattle.id_batches.specs.Flush.{flushing}
use Rattle.id_batches.proofs.Upward.{hands_up}
use Rattle.id_batches.proofs.flushing.flush.Goals as goal

pub returns-in_err-tested : goal.returns-in_err-tested
unfolding flushing
returns-in_err-tested c = hands_up _ _ c.from_residual.ensures.1 (halted _ _ c.in_err-tested.ensures)

pub reserved_placed-requires : goal.reserved_placed-requires
reserved_placed-requires c = entry_ok _ _ c.in_ok-tested.ensures

pub returns : goal.returns
unfolding flushing
returns c = via (past _ _ c.in_ok-tested.ensures) c.reserved_placed.ensures
