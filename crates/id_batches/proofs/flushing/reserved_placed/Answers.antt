-- `id_batches::flushing::reserved_placed` meets its contract: each return is a way through its rule.
use mathlib.Core.Path.{sym, ◌∙◌}
use borrow.Author.Rules.{rules}
use Rattle.refusal.specs.Laws.{refuse}
use Rattle.id_batches.proofs.Ways.{flush_past, flush_damaged, flush_below, flush_done}
use Rattle.id_batches.proofs.flushing.reserved_placed.Goals as goal

pub returns-then-first-reserved : goal.returns-then-first-reserved
returns-then-first-reserved c = refuse (flush_past _ _ _ _ _ c.free-free.ensures c.fresh-fresh.ensures c.if-first-reserved.true)

pub returns-then-any_damaged : goal.returns-then-any_damaged
returns-then-any_damaged c =
    refuse (flush_damaged _ _ _ _ _ c.free-free.ensures c.fresh-fresh.ensures (search rules) c.if-first-reserved.false (sym c.any_damaged.ensures ∙ c.if-any_damaged.true))

pub place_old-requires : goal.place_old-requires
place_old-requires c = record { numbers_bound = search rules; numbers_value = flush_below _ _ _ _ _ _ _ _ c.requires (sym c.any_damaged.ensures ∙ c.if-any_damaged.false) c.place_new.ensures }

pub returns : goal.returns
returns c =
    flush_done _ _ _ _ _ c.free-free.ensures c.fresh-fresh.ensures (search rules) c.if-first-reserved.false _ _ _ _ _ _ (sym c.any_damaged.ensures ∙ c.if-any_damaged.false) c.place_new.ensures c.place_old.ensures c.flushed.ensures
