-- `store_tables::StoreTables::is_moved_damaged` meets its contract: each return is a way through what is seen of the moved number.
use Rattle.store_tables.proofs.Seeing.{is_last, past_used, elsewhere, by_index}
use Rattle.store_tables.proofs.StoreTables.is_moved_damaged.Goals as goal

pub returns-then-place-last : goal.returns-then-place-last
returns-then-place-last c = is_last _ _ _ _ _ _ _ _ _ (rw c.at.ensures at c.saturating_sub-last.ensures) c.if-place-last.true

pub returns-then-self-number : goal.returns-then-self-number
returns-then-self-number c = past_used _ _ _ _ _ _ _ _ _ (rw c.at.ensures at c.saturating_sub-last.ensures) c.if-place-last.false _ c.number_at-moved.ensures c.if-self-number.true

pub returns-then-at-place : goal.returns-then-at-place
returns-then-at-place c = elsewhere _ _ _ _ _ _ _ _ _ (rw c.at.ensures at c.saturating_sub-last.ensures) c.if-place-last.false _ c.number_at-moved.ensures c.if-self-number.false _ c.at-2.ensures c.if-at-place.true

pub returns : goal.returns
returns c = by_index _ _ _ _ _ _ _ _ _ (rw c.at.ensures at c.saturating_sub-last.ensures) c.if-place-last.false _ c.number_at-moved.ensures c.if-self-number.false _ c.at-2.ensures _ c.at-3.ensures c.if-at-place.false
