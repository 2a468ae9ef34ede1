-- `ids::take_chosen::chosen_tested` meets its contract: each return rewrites with the tests that led there.
use mathlib.Core.Path.{sym, ◌∙◌}
use borrow.Author.Tests.{le-leb, lt-leb}
use Rattle.refusal.specs.Table.{◌or_else◌}
use Rattle.ids.specs.AllocAt.{chosen_rules}
use Rattle.ids.proofs.take_chosen.chosen_tested.Goals as goal

pub returns-then-not-is_flushed : goal.returns-then-not-is_flushed
unfolding chosen_rules ◌or_else◌
returns-then-not-is_flushed c = simp (sym c.is_flushed.ensures ∙ c.if-not-is_flushed.true)

pub returns-then-place-ge-MAX : goal.returns-then-place-ge-MAX
unfolding chosen_rules ◌or_else◌
returns-then-place-ge-MAX c = simp (sym c.is_flushed.ensures ∙ c.if-not-is_flushed.false, le-leb _ _ c.if-place-ge-MAX.true)

pub returns-then-capacity-n : goal.returns-then-capacity-n
unfolding chosen_rules ◌or_else◌
returns-then-capacity-n c = simp (sym c.is_flushed.ensures ∙ c.if-not-is_flushed.false, lt-leb _ _ c.if-place-ge-MAX.false, le-leb _ _ c.if-capacity-n.true)

pub returns : goal.returns
unfolding chosen_rules ◌or_else◌
returns c = simp (sym c.is_flushed.ensures ∙ c.if-not-is_flushed.false, lt-leb _ _ c.if-place-ge-MAX.false, lt-leb _ _ c.if-capacity-n.false)
