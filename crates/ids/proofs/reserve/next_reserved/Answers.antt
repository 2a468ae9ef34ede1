-- `ids::next_reserved` meets its contract: each return is a way through its rule.
use mathlib.Core.Path.{sym, ◌∙◌}
use Rattle.ids.proofs.Reserving.{no_number, new_number, damaged_number, free_number}
use Rattle.ids.proofs.reserve.next_reserved.Goals as goal

pub returns-then-ids-next : goal.returns-then-ids-next
returns-then-ids-next c = no_number _ c.requires _ c.free-free.ensures _ c.fresh.ensures c.if-free-eq0.true c.if-ids-next.true

pub returns-then-free-eq0 : goal.returns-then-free-eq0
returns-then-free-eq0 c = new_number _ c.requires _ c.free-free.ensures _ c.fresh.ensures c.if-free-eq0.true _ c.if-ids-next.false c.new.ensures

pub returns-then-is_damaged : goal.returns-then-is_damaged
returns-then-is_damaged c = damaged_number _ c.requires _ c.free-free.ensures _ c.at-number.ensures c.if-free-eq0.false (sym c.is_damaged.ensures ∙ c.if-is_damaged.true)

pub returns : goal.returns
returns c =
    free_number _ c.requires _ c.free-free.ensures _ c.at-number.ensures c.if-free-eq0.false _ _ (sym c.is_damaged.ensures ∙ c.if-is_damaged.false) c.at.ensures c.new-2.ensures
