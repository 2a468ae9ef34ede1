-- `column_entry::lengths_tested` meets its contract: each length is compared with what all archetypes take.
use native.Mathlib.Omega.{arith}
use Rattle.column_entry.proofs.Keeping.{numbers_wrong, counts_wrong, bytes_wrong, lengths_right}
use Rattle.column_entry.proofs.lengths_tested.Goals as goal

pub returns-then-rows-all : goal.returns-then-rows-all
returns-then-rows-all c = numbers_wrong _ _ _ _ _ _ c.if-rows-all.true

pub returns-then-rows-archetypes : goal.returns-then-rows-archetypes
returns-then-rows-archetypes c = counts_wrong _ _ _ _ _ _ c.if-rows-all.false c.if-rows-archetypes.true

pub returns-then-rows-all-2 : goal.returns-then-rows-all-2
returns-then-rows-all-2 c =
    bytes_wrong _ _ _ _ _ _ c.if-rows-all.false c.if-rows-archetypes.false (λ e. omega (arith, c.if-rows-all-2.true, e))

pub returns : goal.returns
returns c =
    lengths_right _ _ _ _ _ _ c.if-rows-all.false c.if-rows-archetypes.false (omega (arith, c.if-rows-all-2.false))
