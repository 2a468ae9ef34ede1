-- `id_batches::listing::freelist` meets its contract: the first tests, then each return is a way through its rule.
use native.Mathlib.Omega.{arith}
use mathlib.Core.Path.{sym, ◌∙◌}
use Rattle.refusal.specs.Laws.{refuse, via, halted, past}
use Rattle.id_tables.specs.Ids.{ids_in, EntryOk}
use Rattle.id_tables.proofs.Damage.{none_past}
use Rattle.id_batches.specs.Freelist.{listing}
use Rattle.id_batches.proofs.Upward.{hands_up}
use Rattle.id_batches.proofs.Ways.{entered, list_damaged, list_done}
use Rattle.id_batches.proofs.listing.freelist.Goals as goal

pub returns-in_err-tested : goal.returns-in_err-tested
unfolding listing
returns-in_err-tested c = hands_up _ _ c.from_residual.ensures.1 (halted _ _ (rw c.free-free.ensures at c.in_err-tested.ensures))

pub slice_bounds-numbers-end : goal.slice_bounds-numbers-end
slice_bounds-numbers-end c =
    let ok : EntryOk (ids_in c.args.ids.now) = (entered _ _ _ c.in_ok-tested.ensures).0 in omega (arith, c.free-free.ensures)

pub returns-then-any_damaged : goal.returns-then-any_damaged
unfolding listing
returns-then-any_damaged c =
    via (past _ _ (rw c.free-free.ensures at c.in_ok-tested.ensures)) (refuse (list_damaged _ _ _ c.free-free.ensures (sym c.any_damaged.ensures ∙ c.if-any_damaged.true)))

pub list_old-requires : goal.list_old-requires
list_old-requires c =
    let e = entered _ _ _ c.in_ok-tested.ensures in
    let ok : EntryOk (ids_in c.args.ids.now) = e.0 in
    (omega (arith, e.1), none_past _ _ _ _ (sym c.any_damaged.ensures ∙ c.if-any_damaged.false) _ (omega arith))

pub returns : goal.returns
unfolding listing
returns c =
    let e = entered _ _ _ c.in_ok-tested.ensures in
    via (past _ _ (rw c.free-free.ensures at c.in_ok-tested.ensures)) (list_done _ _ _ c.free-free.ensures _ e.0 e.1 (sym c.any_damaged.ensures ∙ c.if-any_damaged.false) c.list_old.ensures)
