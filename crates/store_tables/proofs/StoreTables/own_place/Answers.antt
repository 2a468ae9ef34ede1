-- `store_tables::StoreTables::own_place` meets its contract: each return is a way through what is seen of the row.
use Rattle.store_tables.proofs.Seeing.{no_archetype, no_row, another, holds}
use Rattle.store_tables.proofs.StoreTables.own_place.Goals as goal

pub returns-then-self-archetype : goal.returns-then-self-archetype
returns-then-self-archetype c = no_archetype _ _ _ _ _ _ c.if-self-archetype.true

pub returns-then-at-place : goal.returns-then-at-place
returns-then-at-place c = no_row _ _ _ _ _ _ c.if-self-archetype.false _ c.at.ensures c.if-at-place.true

pub returns-then-ne : goal.returns-then-ne
returns-then-ne c = another _ _ _ _ _ _ c.if-self-archetype.false _ c.at.ensures c.if-at-place.false _ c.span-span.ensures _ c.number_at.ensures c.if-ne.ensures

pub returns : goal.returns
returns c = holds _ _ _ _ _ _ c.if-self-archetype.false _ c.at.ensures c.if-at-place.false _ c.span-span.ensures _ c.number_at.ensures c.if-ne.ensures
