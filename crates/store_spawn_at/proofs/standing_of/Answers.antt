-- `store_spawn_at::standing_of` meets its contract: each return is a way to what the number is.
use Rattle.store_spawn_at.proofs.Finding.{never_used, pending_bad, pending_good, unplaced, no_own, in_own}
use Rattle.store_spawn_at.proofs.standing_of.Goals as goal

pub returns-then-head-n : goal.returns-then-head-n
returns-then-head-n c = never_used _ _ c.if-head-n.true

pub returns-then-is_damaged : goal.returns-then-is_damaged
returns-then-is_damaged c = pending_bad _ _ c.if-head-n.false c.if-is_pending.ensures c.if-is_damaged.ensures

pub returns-then-is_pending : goal.returns-then-is_pending
returns-then-is_pending c = pending_good _ _ c.if-head-n.false c.if-is_pending.ensures c.if-is_damaged.ensures

pub returns-then-eq : goal.returns-then-eq
returns-then-eq c = unplaced _ _ c.if-head-n.false c.if-is_pending.ensures _ c.place_at-place.ensures c.if-eq.ensures

pub returns-in_default : goal.returns-in_default
returns-in_default c = no_own _ _ c.if-head-n.false c.if-is_pending.ensures _ c.place_at-place.ensures c.if-eq.ensures c.requires c.in_default.ensures

pub returns : goal.returns
returns c = in_own _ _ c.if-head-n.false c.if-is_pending.ensures _ c.place_at-place.ensures c.if-eq.ensures c.requires _ c.in-Some.ensures
