-- `ids::alloc_at` meets its contract: each return is a way through its rule.
use mathlib.Core.Path.{refl}
use Rattle.refusal.specs.Laws.{refuse, via, handed_up_by}
use Rattle.handle.specs.OnBits.{on_first, on_zero, on_good}
use Rattle.id_tables.proofs.Entering.{entry_ok}
use Rattle.ids.specs.AllocAt.{allocating_at}
use Rattle.ids.proofs.take_chosen.alloc_at.Goals as goal

pub returns-in_err-tested : goal.returns-in_err-tested
unfolding allocating_at
returns-in_err-tested c = rw (handed_up_by _ _ _ c.from_residual.ensures.1 refl) (refuse (on_first _ _ _ c.in_err-tested.ensures))

pub returns-in_default : goal.returns-in_default
unfolding allocating_at
returns-in_default c = refuse (on_zero _ _ _ _ _ c.in_ok-tested.ensures c.from_bits.ensures c.in_default.is)

pub alloced_at-requires : goal.alloced_at-requires
alloced_at-requires c = entry_ok _ _ c.in_ok-tested.ensures

pub returns : goal.returns
unfolding allocating_at
returns c = via (on_good _ _ _ _ _ c.in_ok-tested.ensures c.from_bits.ensures c.in-Ok.is) c.alloced_at.ensures
