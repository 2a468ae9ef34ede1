-- `ids::take_next::alloc_tested` meets its contract: each return is a way through the tests.
use mathlib.Core.Path.{sym, ◌∙◌}
use Rattle.refusal.specs.Table.{◌or_else◌}
use Rattle.refusal.specs.Laws.{stop, handed_up}
use Rattle.ids.specs.Alloc.{alloc_rules}
use Rattle.ids.proofs.Allocating.{unflushed, no_index, full, new_passes, last_decides}
use Rattle.ids.proofs.take_next.alloc_tested.Goals as goal

pub returns-in_err-tested : goal.returns-in_err-tested
unfolding alloc_rules
returns-in_err-tested c = handed_up _ _ c.from_residual.ensures.1 (sym (stop _ _ _ c.in_err-tested.ensures))

pub returns-then-not-is_flushed : goal.returns-then-not-is_flushed
returns-then-not-is_flushed c = unflushed _ _ c.in_ok-tested.ensures (sym c.is_flushed.ensures ∙ c.if-not-is_flushed.true)

pub returns-then-place-ge-MAX : goal.returns-then-place-ge-MAX
returns-then-place-ge-MAX c = no_index _ _ c.in_ok-tested.ensures (sym c.is_flushed.ensures ∙ c.if-not-is_flushed.false) c.if-place-ge-MAX.true

pub returns-then-ids : goal.returns-then-ids
returns-then-ids c = full _ _ c.in_ok-tested.ensures (sym c.is_flushed.ensures ∙ c.if-not-is_flushed.false) c.if-place-ge-MAX.false c.if-count-eq0.true c.if-ids.true

pub returns-then-count-eq0 : goal.returns-then-count-eq0
returns-then-count-eq0 c = new_passes _ _ c.in_ok-tested.ensures (sym c.is_flushed.ensures ∙ c.if-not-is_flushed.false) c.if-place-ge-MAX.false c.if-count-eq0.true c.if-ids.false

pub returns-then-is_damaged : goal.returns-then-is_damaged
unfolding ◌or_else◌
returns-then-is_damaged c =
    last_decides _ _ c.in_ok-tested.ensures (sym c.is_flushed.ensures ∙ c.if-not-is_flushed.false) c.if-place-ge-MAX.false _ _ c.if-count-eq0.false c.at-number.ensures (sym c.is_damaged.ensures ∙ c.if-is_damaged.true)

pub returns : goal.returns
unfolding ◌or_else◌
returns c =
    last_decides _ _ c.in_ok-tested.ensures (sym c.is_flushed.ensures ∙ c.if-not-is_flushed.false) c.if-place-ge-MAX.false _ _ c.if-count-eq0.false c.at-number.ensures (sym c.is_damaged.ensures ∙ c.if-is_damaged.false)
