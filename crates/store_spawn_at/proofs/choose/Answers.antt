-- `store_spawn_at::choose` meets its contract: each return is a way through its tests.
use Rattle.store_spawn_at.proofs.Testing.{unflushed, undeclared, strays, held, no_number, no_row, bad, passes}
use Rattle.store_spawn_at.proofs.Taking.{refuses, grants}
use Rattle.store_spawn_at.proofs.choose.Goals as goal

pub standing_of-standing-requires : goal.standing_of-standing-requires
standing_of-standing-requires c = c.requires

pub returns-then-not-is_flushed : goal.returns-then-not-is_flushed
returns-then-not-is_flushed c = refuses _ _ _ _ c.id-number.ensures _ (unflushed _ _ _ c.if-not-is_flushed.ensures)

pub returns-then-rows-archetype : goal.returns-then-rows-archetype
returns-then-rows-archetype c = refuses _ _ _ _ c.id-number.ensures _ (undeclared _ _ _ c.if-not-is_flushed.ensures c.if-rows-archetype.true)

pub returns-then-is_astray : goal.returns-then-is_astray
returns-then-is_astray c = refuses _ _ _ _ c.id-number.ensures _ (strays _ _ _ c.if-not-is_flushed.ensures c.if-rows-archetype.false _ c.standing_of-standing.ensures c.if-is_astray.ensures)

pub returns-then-any_held : goal.returns-then-any_held
returns-then-any_held c = refuses _ _ _ _ c.id-number.ensures _ (held _ _ _ c.if-not-is_flushed.ensures c.if-rows-archetype.false _ c.standing_of-standing.ensures c.if-is_astray.ensures c.if-any_held.ensures)

pub returns-then-store-number : goal.returns-then-store-number
returns-then-store-number c = refuses _ _ _ _ c.id-number.ensures _ (no_number _ _ _ c.if-not-is_flushed.ensures c.if-rows-archetype.false _ c.standing_of-standing.ensures c.if-is_astray.ensures c.if-any_held.ensures c.if-store-number.true)

pub returns-then-is_full : goal.returns-then-is_full
returns-then-is_full c = refuses _ _ _ _ c.id-number.ensures _ (no_row _ _ _ c.if-not-is_flushed.ensures c.if-rows-archetype.false _ c.standing_of-standing.ensures c.if-is_astray.ensures c.if-any_held.ensures c.if-store-number.false c.requires c.if-is_full.ensures)

pub returns-then-is_any_damaged : goal.returns-then-is_any_damaged
returns-then-is_any_damaged c = refuses _ _ _ _ c.id-number.ensures _ (bad _ _ _ c.if-not-is_flushed.ensures c.if-rows-archetype.false _ c.standing_of-standing.ensures c.if-is_astray.ensures c.if-any_held.ensures c.if-store-number.false c.requires c.if-is_full.ensures c.if-is_any_damaged.ensures)

pub returns : goal.returns
returns c = grants _ _ _ _ c.id-number.ensures _ c.id-number.ensures _ c.standing_of-standing.ensures (passes _ _ _ c.if-not-is_flushed.ensures c.if-rows-archetype.false _ c.standing_of-standing.ensures c.if-is_astray.ensures c.if-any_held.ensures c.if-store-number.false c.requires c.if-is_full.ensures c.if-is_any_damaged.ensures)
