-- `store_flush::flushing::seat_reserved` meets its contract: each return is a way through its rule.
use mathlib.Core.Path.{refl, sym, ◌∙◌}
use Rattle.refusal.specs.Laws.{refuse, handed_up}
use Rattle.store_flush.proofs.Ways.{seat_held, seat_full, list_needs, seat_refused, seat_done}
use Rattle.store_flush.proofs.flushing.seat_reserved.Goals as goal

pub returns-then-any_held : goal.returns-then-any_held
returns-then-any_held c = refuse (seat_held _ (sym c.any_held.ensures ∙ c.if-any_held.true))

pub returns-then-at-count : goal.returns-then-at-count
returns-then-at-count c = refuse (seat_full _ (sym c.any_held.ensures ∙ c.if-any_held.false) _ _ _ _ c.at-count.ensures c.fresh.ensures c.free.ensures c.at.ensures c.if-at-count.true)

pub list_reserved-requires : goal.list_reserved-requires
list_reserved-requires c = let e = list_needs _ (sym c.any_held.ensures ∙ c.if-any_held.false) _ _ _ _ c.at-count.ensures c.fresh.ensures c.free.ensures c.at.ensures c.requires c.if-at-count.false in record { cursor_bound = e.0; cursor_in_bounds = e.1 }

pub returns-in_err-flush : goal.returns-in_err-flush
returns-in_err-flush c =
    rw (handed_up _ _ c.from_residual.ensures.1 refl)
    (seat_refused _ (sym c.any_held.ensures ∙ c.if-any_held.false) _ _ _ _ c.at-count.ensures c.fresh.ensures c.free.ensures c.at.ensures c.requires c.if-at-count.false _ c.in_err-flush.ensures)

pub returns : goal.returns
returns c =
    seat_done _ (sym c.any_held.ensures ∙ c.if-any_held.false) _ _ _ _ c.at-count.ensures c.fresh.ensures c.free.ensures c.at.ensures c.requires c.if-at-count.false _ c.in_ok-flush.ensures _ _ c.list_reserved.ensures c.put.ensures
