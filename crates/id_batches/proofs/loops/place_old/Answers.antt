use mathlib.Core.Path.{refl}
use Rattle.id_tables.proofs.Damage.{below_at}
use Rattle.id_batches.proofs.Setting.{rest_all, rest_none, rest_long, same_next, row_next}
use Rattle.id_batches.proofs.loops.place_old.Goals as goal

pub loop-i-init : goal.loop-i-init
loop-i-init c = (rest_all _ _ _, rest_all _ _ _)

-- the number is one that the tables have

pub bounds-archetypes-n : goal.bounds-archetypes-n
bounds-archetypes-n c = rw (rest_long c.loop-i.invariant.0) (below_at _ _ c.requires.numbers_value.0 c.loop-i.i c.loop-i-test.true)

pub bounds-indices-n : goal.bounds-indices-n
bounds-indices-n c = rw (rest_long c.loop-i.invariant.1) (below_at _ _ c.requires.numbers_value.1 c.loop-i.i c.loop-i-test.true)

pub loop-i-preserved : goal.loop-i-preserved
loop-i-preserved c =
    (same_next _ _ c.loop-i.invariant.0 c.loop-i-test.true refl refl, row_next _ _ c.loop-i.invariant.1 c.loop-i-test.true refl refl)

pub returns : goal.returns
returns c = (rest_none c.loop-i.invariant.0 c.loop-i-test.false, rest_none c.loop-i.invariant.1 c.loop-i-test.false)
