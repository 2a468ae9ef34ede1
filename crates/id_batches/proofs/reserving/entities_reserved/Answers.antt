-- `id_batches::reserving::entities_reserved` meets its contract: each return is a way through its rule.
use native.Mathlib.Omega.{arith}
use borrow.Author.Rules.{rules}
use mathlib.Core.Path.{sym, ◌∙◌}
use Rattle.refusal.specs.Laws.{refuse}
use Rattle.id_tables.proofs.Damage.{none_past}
use Rattle.id_batches.proofs.Ways.{reserve_full, reserve_damaged, reserve_done}
use Rattle.id_batches.proofs.reserving.entities_reserved.Goals as goal

pub returns-then-free-ids : goal.returns-then-free-ids
returns-then-free-ids c = refuse (reserve_full _ _ _ _ _ c.free-free.ensures c.fresh.ensures c.if-free-ids.true)

pub returns-then-any_damaged : goal.returns-then-any_damaged
returns-then-any_damaged c =
    refuse (reserve_damaged _ _ _ _ _ c.free-free.ensures c.fresh.ensures c.if-free-ids.false _ c.saturating_sub-from.ensures (sym c.any_damaged.ensures ∙ c.if-any_damaged.true))

pub returns : goal.returns
returns c =
    reserve_done _ _ _ _ _ c.free-free.ensures c.fresh.ensures c.if-free-ids.false _ c.saturating_sub-from.ensures _ _ _ _ c.requires.entry_ok c.requires.n_in_bounds (sym c.any_damaged.ensures ∙ c.if-any_damaged.false) c.list_old.ensures c.saturating_sub.ensures c.list_new.ensures c.fallen-ids.ensures

pub list_old-requires : goal.list_old-requires
list_old-requires c = (search rules, none_past _ _ _ _ (sym c.any_damaged.ensures ∙ c.if-any_damaged.false) _ (omega (arith, c.requires.entry_ok.used_in)))
