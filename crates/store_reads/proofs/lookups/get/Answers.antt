-- `store_reads::get` meets its contract: the first tests, the bits, then the place of the handle.
use mathlib.Core.Path.{sym, ◌∙◌}
use Rattle.refusal.specs.Laws.{handed_up}
use Rattle.handle.specs.OnBits.{on_first, on_zero, on_good}
use Rattle.store_tables.proofs.Entering.{entered}
use Rattle.store_reads.specs.Lookup.{getting}
use Rattle.store_reads.proofs.Looking.{get_unseen, get_seen}
use Rattle.store_reads.proofs.lookups.get.Goals as goal

pub returns-in_err-tested : goal.returns-in_err-tested
unfolding getting
returns-in_err-tested c = handed_up _ _ c.from_residual.ensures.1 (sym (on_first _ _ _ c.in_err-tested.ensures))

pub returns-in_default : goal.returns-in_default
unfolding getting
returns-in_default c = sym (on_zero _ _ _ _ _ c.in_ok-tested.ensures c.from_bits.ensures c.in_default.is)

pub returns-in_err-place : goal.returns-in_err-place
unfolding getting
returns-in_err-place c =
    handed_up _ _ c.from_residual-in_err-place.ensures.1
    (get_unseen _ (entered _ _ c.in_ok-tested.ensures) _ _ c.in_err-place.ensures
    ∙ sym (on_good _ _ _ _ _ c.in_ok-tested.ensures c.from_bits.ensures c.in-Ok.is))

pub returns-in_default-2 : goal.returns-in_default-2
unfolding getting
returns-in_default-2 c =
    get_seen _ (entered _ _ c.in_ok-tested.ensures) _ _ _ _ c.in_ok-place.ensures c.in_default-2.is
    ∙ sym (on_good _ _ _ _ _ c.in_ok-tested.ensures c.from_bits.ensures c.in-Ok.is)

pub returns : goal.returns
unfolding getting
returns c =
    get_seen _ (entered _ _ c.in_ok-tested.ensures) _ _ _ _ c.in_ok-place.ensures c.in-Some.is
    ∙ sym (on_good _ _ _ _ _ c.in_ok-tested.ensures c.from_bits.ensures c.in-Ok.is)
