-- `store_reads::find_word` meets its contract: the archetype, then the column that the search finds in its types.
use native.Mathlib.Omega.{arith}
use Rattle.store_reads.proofs.Holding.{name_place, name_missing, name_within, name_found}
use Rattle.store_reads.proofs.words.find_word.Goals as goal

pub returns-then-declaration-archetype : goal.returns-then-declaration-archetype
returns-then-declaration-archetype c = name_place _ _ _ c.if-declaration-archetype.true

pub returns-in_default : goal.returns-in_default
returns-in_default c = name_missing _ _ c.requires c.if-declaration-archetype.false _ c.span-span.ensures _ _ (rw c.part_of.ensures at c.find.ensures) c.in_default.is

pub overflow_add-result : goal.overflow_add-result
overflow_add-result c =
    omega (arith, name_within _ _ c.requires c.if-declaration-archetype.false _ c.span-span.ensures _ _ (rw c.part_of.ensures at c.find.ensures) _ c.in-Some.is)

pub returns : goal.returns
returns c = name_found _ _ c.requires c.if-declaration-archetype.false _ c.span-span.ensures _ _ (rw c.part_of.ensures at c.find.ensures) _ c.in-Some.is
