-- `store_reads::read` meets its contract: the first tests, the bits, then the component of the handle and its word.
use mathlib.Core.Path.{refl, sym, ◌∙◌}
use Rattle.refusal.specs.Laws.{handed_up}
use Rattle.handle.specs.OnBits.{on_first, on_zero, on_good}
use Rattle.store_tables.proofs.Entering.{entered}
use Rattle.store_reads.specs.Read.{reading}
use Rattle.store_reads.proofs.Locating.{placed_in, component_unseen, component_seen}
use Rattle.store_reads.proofs.Reading.{read_told}
use Rattle.store_reads.proofs.reads.read.Goals as goal

pub returns-in_err-tested : goal.returns-in_err-tested
unfolding reading
returns-in_err-tested c = handed_up _ _ c.from_residual.ensures.1 (sym (on_first _ _ _ c.in_err-tested.ensures))

pub returns-in_default : goal.returns-in_default
unfolding reading
returns-in_default c = sym (on_zero _ _ _ _ _ c.in_ok-tested.ensures c.from_bits.ensures c.in_default.is)

pub returns-in_err-placed : goal.returns-in_err-placed
unfolding reading
returns-in_err-placed c =
    handed_up _ _ c.from_residual-in_err-placed.ensures.1
    (read_told _ _ _ _ (component_unseen _ (entered _ _ c.in_ok-tested.ensures) _ _ _ c.in_err-placed.ensures) refl
    ∙ sym (on_good _ _ _ _ _ c.in_ok-tested.ensures c.from_bits.ensures c.in-Ok.is))

pub find_component-requires : goal.find_component-requires
find_component-requires c =
    let e = entered _ _ c.in_ok-tested.ensures in
    record { kept = e.rows.tabled.kept; placed_in = placed_in _ e _ _ _ c.in_ok-placed.ensures }

pub returns-in_err-cell : goal.returns-in_err-cell
unfolding reading
returns-in_err-cell c =
    handed_up _ _ c.from_residual-in_err-cell.ensures.1
    (read_told _ _ _ _ (component_seen _ (entered _ _ c.in_ok-tested.ensures) _ _ _ _ c.in_ok-placed.ensures ∙ sym c.in_err-cell.ensures) refl
    ∙ sym (on_good _ _ _ _ _ c.in_ok-tested.ensures c.from_bits.ensures c.in-Ok.is))

pub returns : goal.returns
unfolding reading
returns c =
    read_told _ _ _ _ (component_seen _ (entered _ _ c.in_ok-tested.ensures) _ _ _ _ c.in_ok-placed.ensures ∙ sym c.in_ok-cell.ensures) c.read_cell.ensures
    ∙ sym (on_good _ _ _ _ _ c.in_ok-tested.ensures c.from_bits.ensures c.in-Ok.is)
