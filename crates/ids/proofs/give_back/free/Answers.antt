-- `ids::free` meets its contract: each return is a way through its rule.
use mathlib.Core.Path.{refl}
use Rattle.refusal.specs.Laws.{refuse, via, handed_up}
use Rattle.handle.specs.OnBits.{on_first, on_zero, on_good}
use Rattle.id_tables.proofs.Entering.{entry_ok}
use Rattle.ids.specs.Free.{freeing}
use Rattle.ids.proofs.give_back.free.Goals as goal

pub returns-in_err-tested : goal.returns-in_err-tested
unfolding freeing
returns-in_err-tested c = rw (handed_up _ _ c.from_residual.ensures.1 refl) (refuse (on_first _ _ _ c.in_err-tested.ensures))

pub returns-in_default : goal.returns-in_default
unfolding freeing
returns-in_default c = refuse (on_zero _ _ _ _ _ c.in_ok-tested.ensures c.from_bits.ensures c.in_default.is)

pub freed-requires : goal.freed-requires
freed-requires c = entry_ok _ _ c.in_ok-tested.ensures

pub returns : goal.returns
unfolding freeing
returns c = via (on_good _ _ _ _ _ c.in_ok-tested.ensures c.from_bits.ensures c.in-Ok.is) c.freed.ensures
