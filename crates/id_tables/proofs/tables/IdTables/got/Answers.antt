-- `id_tables::IdTables::got` meets its contract: each return is a way through its rule.
use Rattle.std.proofs.Common.{sym, ◌∙◌}
use Rattle.id_tables.proofs.Laws.{got_live, got_new, got_none}
use Rattle.id_tables.proofs.Looking.{as_got}
use Rattle.id_tables.proofs.tables.IdTables.got.Goals as goal

pub returns-then-is_live : goal.returns-then-is_live
returns-then-is_live c = rw c.place_at.ensures (as_got _ _ _ _ _ c.generation-generation.ensures c.id-number.ensures (got_live _ _ _ (sym c.is_live.ensures ∙ c.if-is_live.true)))

pub returns-then-is_reserved_new : goal.returns-then-is_reserved_new
returns-then-is_reserved_new c = as_got _ _ _ _ _ c.generation-generation.ensures c.id-number.ensures (got_new _ _ _ (sym c.is_reserved_new.ensures ∙ c.if-is_reserved_new.true))

pub returns : goal.returns
returns c = as_got _ _ _ _ _ c.generation-generation.ensures c.id-number.ensures (got_none _ _ _ (sym c.is_live.ensures ∙ c.if-is_live.false) (sym c.is_reserved_new.ensures ∙ c.if-is_reserved_new.false))
