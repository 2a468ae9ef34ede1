-- `ids::alloc` meets its contract: the tests refuse, or one of two steps grants.
use mathlib.Core.Path.{refl}
use native.Mathlib.Nat.{pos_of_ne-zero}
use Rattle.refusal.specs.Laws.{refuse, via, halted, handed_up_by}
use Rattle.ids.specs.Alloc.{allocating}
use Rattle.ids.proofs.Passing.{alloc_ok}
use Rattle.ids.proofs.Allocating.{new_room, goes_new, goes_last}
use Rattle.ids.proofs.take_next.alloc.Goals as goal

pub returns-in_err-alloc_tested : goal.returns-in_err-alloc_tested
unfolding allocating
returns-in_err-alloc_tested c = rw (handed_up_by _ _ _ c.from_residual.ensures.1 refl) (refuse (halted _ _ c.in_err-alloc_tested.ensures))

pub alloc_new-requires : goal.alloc_new-requires
alloc_new-requires c = record { entry_ok = (alloc_ok _ _ c.in_ok-alloc_tested.ensures).ok; used_in_bounds = new_room _ _ c.in_ok-alloc_tested.ensures c.if-head-eq0.true }

pub returns-then-head-eq0 : goal.returns-then-head-eq0
returns-then-head-eq0 c = via (goes_new _ _ c.in_ok-alloc_tested.ensures c.if-head-eq0.true) c.alloc_new.ensures

pub alloc_last-requires : goal.alloc_last-requires
alloc_last-requires c = record { entry_ok = (alloc_ok _ _ c.in_ok-alloc_tested.ensures).ok; undamaged = (alloc_ok _ _ c.in_ok-alloc_tested.ensures).last_good (pos_of_ne-zero c.if-head-eq0.false); pending_nonzero = pos_of_ne-zero c.if-head-eq0.false }

pub returns : goal.returns
returns c = via (goes_last _ _ c.in_ok-alloc_tested.ensures c.if-head-eq0.false) c.alloc_last.ensures
