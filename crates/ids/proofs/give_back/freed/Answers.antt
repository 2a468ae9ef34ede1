-- `ids::give_back::freed` meets its contract: each return is a way through its rule.
use mathlib.Core.Path.{sym, ◌∙◌}
use Rattle.ids.proofs.Freeing.{free_unflushed, free_absent, free_none_live, free_did}
use Rattle.ids.proofs.give_back.freed.Goals as goal

pub returns-then-not-is_flushed : goal.returns-then-not-is_flushed
returns-then-not-is_flushed c = free_unflushed _ _ _ (sym c.is_flushed.ensures ∙ c.if-not-is_flushed.true)

pub returns-then-not-is_live : goal.returns-then-not-is_live
returns-then-not-is_live c =
    free_absent _ _ _ _ _ c.generation-generation.ensures c.id-id.ensures (sym c.is_flushed.ensures ∙ c.if-not-is_flushed.false) (sym c.is_live.ensures ∙ c.if-not-is_live.true)

pub returns-then-ids-eq0 : goal.returns-then-ids-eq0
returns-then-ids-eq0 c =
    free_none_live _ _ _ _ _ c.generation-generation.ensures c.id-id.ensures (sym c.is_flushed.ensures ∙ c.if-not-is_flushed.false) (sym c.is_live.ensures ∙ c.if-not-is_live.false) c.if-ids-eq0.true

pub returns : goal.returns
returns c =
    free_did _ _ _ _ _ c.generation-generation.ensures c.id-id.ensures (sym c.is_flushed.ensures ∙ c.if-not-is_flushed.false) (sym c.is_live.ensures ∙ c.if-not-is_live.false)
    _ _ _ _ _ _ _ c.if-ids-eq0.false c.place_at-old.ensures c.next_generation.ensures c.settle.ensures c.put.ensures c.flushed.ensures
