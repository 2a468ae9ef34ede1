-- `store_flush::flushing::flush` meets its contract: the first tests, then what is left.
use mathlib.Core.Path.{refl}
use Rattle.refusal.specs.Laws.{refuse, via, halted, past, handed_up}
use Rattle.store_tables.proofs.Entering.{entered}
use Rattle.store_flush.specs.Flush.{flushing}
use Rattle.store_flush.proofs.flushing.flush.Goals as goal

pub returns-in_err-tested : goal.returns-in_err-tested
unfolding flushing
returns-in_err-tested c = rw (handed_up _ _ c.from_residual.ensures.1 refl) (refuse (halted _ _ c.in_err-tested.ensures))

pub seat_reserved-requires : goal.seat_reserved-requires
seat_reserved-requires c = entered _ _ c.in_ok-tested.ensures

pub returns : goal.returns
unfolding flushing
returns c = via (past _ _ c.in_ok-tested.ensures) c.seat_reserved.ensures
