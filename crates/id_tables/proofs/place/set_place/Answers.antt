-- `id_tables::set_place` meets its contract: each return is a way through its rule.
use Rattle.std.proofs.Common.{refl}
use Rattle.refusal.specs.Laws.{handed_up, refuse, via}
use Rattle.handle.specs.OnBits.{on_first, on_zero, on_good}
use Rattle.id_tables.specs.Lookup.{setting_place}
use Rattle.id_tables.proofs.place.set_place.Goals as goal

pub returns-in_err-tested : goal.returns-in_err-tested
unfolding setting_place
returns-in_err-tested c = rw (handed_up _ _ c.from_residual.ensures.1 refl) (refuse (on_first _ _ _ c.in_err-tested.ensures))

pub returns-in_default : goal.returns-in_default
unfolding setting_place
returns-in_default c = refuse (on_zero _ _ _ _ _ c.in_ok-tested.ensures c.from_bits.ensures c.in_default.is)

pub returns : goal.returns
unfolding setting_place
returns c = via (on_good _ _ _ _ _ c.in_ok-tested.ensures c.from_bits.ensures c.in-Ok.is) c.place_set.ensures
