-- `store_reads::write` meets its contract: the first tests, the bits, then the component of the handle and its word.
use mathlib.Core.Path.{refl, sym, ◌∙◌}
use Rattle.refusal.specs.Laws.{refuse, handed_up}
use Rattle.store_tables.proofs.Entering.{entered}
use Rattle.store_reads.proofs.Locating.{placed_in, component_unseen, component_seen}
use Rattle.store_reads.proofs.Writing.{write_first, write_zero, write_good}
use Rattle.store_reads.proofs.writes.write.Goals as goal

pub returns-in_err-tested : goal.returns-in_err-tested
returns-in_err-tested c = rw (handed_up _ _ c.from_residual.ensures.1 refl) (refuse (write_first _ _ _ _ _ c.wrong_size-short.ensures c.in_err-tested.ensures))

pub returns-in_default : goal.returns-in_default
returns-in_default c = refuse (write_zero _ _ _ _ _ c.wrong_size-short.ensures _ _ c.in_ok-tested.ensures c.from_bits.ensures c.in_default.is)

pub returns-in_err-placed : goal.returns-in_err-placed
returns-in_err-placed c =
    rw (handed_up _ _ c.from_residual-in_err-placed.ensures.1 refl)
    (write_good _ _ _ _ _ c.wrong_size-short.ensures c.in_ok-tested.ensures _ _ c.from_bits.ensures c.in-Ok.is
    (component_unseen _ (entered _ _ c.in_ok-tested.ensures) _ _ _ c.in_err-placed.ensures) (refuse refl))

pub find_component-requires : goal.find_component-requires
find_component-requires c =
    let e = entered _ _ c.in_ok-tested.ensures in
    record { kept = e.rows.tabled.kept; placed_in = placed_in _ e _ _ _ c.in_ok-placed.ensures }

pub returns-in_err-cell : goal.returns-in_err-cell
returns-in_err-cell c =
    rw (handed_up _ _ c.from_residual-in_err-cell.ensures.1 refl)
    (write_good _ _ _ _ _ c.wrong_size-short.ensures c.in_ok-tested.ensures _ _ c.from_bits.ensures c.in-Ok.is
    (component_seen _ (entered _ _ c.in_ok-tested.ensures) _ _ _ _ c.in_ok-placed.ensures ∙ sym c.in_err-cell.ensures) (refuse refl))

pub returns : goal.returns
returns c =
    write_good _ _ _ _ _ c.wrong_size-short.ensures c.in_ok-tested.ensures _ _ c.from_bits.ensures c.in-Ok.is
    (component_seen _ (entered _ _ c.in_ok-tested.ensures) _ _ _ _ c.in_ok-placed.ensures ∙ sym c.in_ok-cell.ensures) c.write_cell.ensures
