-- `store_spawn::spawn_tested` meets its contract: each return is a way through its tests.
use mathlib.Core.Path.{sym}
use Rattle.store_spawn.proofs.Testing.{unflushed, undeclared, held, no_number, no_row, next_bad, passes}
use Rattle.store_spawn.proofs.spawn_tested.Goals as goal

pub returns-then-not-is_flushed : goal.returns-then-not-is_flushed
returns-then-not-is_flushed c = unflushed _ _ c.if-not-is_flushed.ensures

pub returns-then-rows-archetype : goal.returns-then-rows-archetype
returns-then-rows-archetype c = undeclared _ _ c.if-not-is_flushed.ensures c.if-rows-archetype.true

pub returns-then-any_held : goal.returns-then-any_held
returns-then-any_held c = held _ _ c.if-not-is_flushed.ensures c.if-rows-archetype.false c.if-any_held.ensures

pub is_full-requires : goal.is_full-requires
is_full-requires c = record { head_value = sym c.if-not-is_flushed.ensures; used_le_capacity = c.requires.ids.used_in }

pub returns-then-is_full : goal.returns-then-is_full
returns-then-is_full c = no_number _ _ c.if-not-is_flushed.ensures c.if-rows-archetype.false c.if-any_held.ensures c.if-is_full.ensures

pub returns-then-at : goal.returns-then-at
returns-then-at c = no_row _ _ c.if-not-is_flushed.ensures c.if-rows-archetype.false c.if-any_held.ensures c.if-is_full.ensures _ _ c.at.ensures c.at-2.ensures c.if-at.true

pub returns-then-is_next_damaged : goal.returns-then-is_next_damaged
returns-then-is_next_damaged c = next_bad _ _ c.if-not-is_flushed.ensures c.if-rows-archetype.false c.if-any_held.ensures c.if-is_full.ensures _ _ c.at.ensures c.at-2.ensures c.if-at.false c.if-is_next_damaged.ensures

pub returns : goal.returns
returns c = passes _ _ c.if-not-is_flushed.ensures c.if-rows-archetype.false c.if-any_held.ensures c.if-is_full.ensures _ _ c.at.ensures c.at-2.ensures c.if-at.false c.if-is_next_damaged.ensures
