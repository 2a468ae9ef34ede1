-- `id_readers::spans::span_reserved` meets its contract: each return is a way through its rule.
use mathlib.Core.Path.{sym, ◌∙◌}
use Rattle.refusal.specs.Laws.{refuse}
use Rattle.id_readers.proofs.Ways.{span_full, span_damaged, span_done}
use Rattle.id_readers.proofs.spans.span_reserved.Goals as goal

pub returns-then-free-ids : goal.returns-then-free-ids
returns-then-free-ids c = refuse (span_full _ _ _ _ c.free-free.ensures c.fresh.ensures c.if-free-ids.true)

pub returns-then-any_damaged : goal.returns-then-any_damaged
returns-then-any_damaged c =
    refuse (span_damaged _ _ _ _ c.free-free.ensures c.fresh.ensures c.if-free-ids.false _ c.saturating_sub-from.ensures (sym c.any_damaged.ensures ∙ c.if-any_damaged.true))

pub returns : goal.returns
returns c =
    span_done _ _ _ _ c.free-free.ensures c.fresh.ensures c.if-free-ids.false _ c.saturating_sub-from.ensures _ _ c.requires (sym c.any_damaged.ensures ∙ c.if-any_damaged.false) c.saturating_sub.ensures c.fallen-ids.ensures
