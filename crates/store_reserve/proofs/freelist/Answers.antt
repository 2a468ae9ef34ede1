-- `store_reserve::freelist` meets its contract: past the first tests, what the id layer says.
use mathlib.Core.Path.{refl}
use Rattle.refusal.specs.Laws.{refuse, via, halted, past, handed_up}
use Rattle.store_reserve.specs.Reserve.{listing_free}
use Rattle.store_reserve.proofs.freelist.Goals as goal

pub returns-in_err-tested : goal.returns-in_err-tested
unfolding listing_free
returns-in_err-tested c = rw (handed_up _ _ c.from_residual.ensures.1 refl) (refuse (halted _ _ (rw c.free.ensures at c.in_err-tested.ensures)))

pub returns : goal.returns
unfolding listing_free
returns c = via (past _ _ (rw c.free.ensures at c.in_ok-tested.ensures)) c.freelist.ensures
