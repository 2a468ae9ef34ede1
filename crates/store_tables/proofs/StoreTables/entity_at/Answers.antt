-- `store_tables::StoreTables::entity_at` meets its contract: each return is a way through its tests.
use mathlib.Core.Path.{ap}
use mathlib.Core.Bool.{not}
use borrow.Author.Tests.{not-true, not-false}
use mathlib.Core.Path.{sym, ◌∙◌}
use Rattle.store_tables.proofs.Seeing.{unflushed, absent, not_own, its_own}
use Rattle.store_tables.proofs.StoreTables.entity_at.Goals as goal

pub returns-then-not-is_flushed : goal.returns-then-not-is_flushed
returns-then-not-is_flushed c = unflushed _ _ _ _ _ _ (sym c.is_flushed.ensures ∙ not-true _ (ap not c.if-not-is_flushed.true))

pub returns-then-not-is_live : goal.returns-then-not-is_live
returns-then-not-is_live c = absent _ _ _ _ _ _ _ _ c.generation.ensures c.id-id.ensures (sym c.is_flushed.ensures ∙ not-false _ (ap not c.if-not-is_flushed.false)) (sym c.is_live.ensures ∙ not-true _ (ap not c.if-not-is_live.true))

pub returns-in_default : goal.returns-in_default
returns-in_default c = not_own _ _ _ _ _ _ _ _ c.generation.ensures c.id-id.ensures (sym c.is_flushed.ensures ∙ not-false _ (ap not c.if-not-is_flushed.false)) (sym c.is_live.ensures ∙ not-false _ (ap not c.if-not-is_live.false)) _ c.place_at-place.ensures _ c.own_place.ensures c.in_default.is

pub returns : goal.returns
returns c = its_own _ _ _ _ _ _ _ _ c.generation.ensures c.id-id.ensures (sym c.is_flushed.ensures ∙ not-false _ (ap not c.if-not-is_flushed.false)) (sym c.is_live.ensures ∙ not-false _ (ap not c.if-not-is_live.false)) _ c.place_at-place.ensures _ c.own_place.ensures _ c.in-Some.is
