use mathlib.Core.Path.{refl}
use Rattle.id_batches.proofs.Setting.{rest_all}
use Rattle.store_flush.proofs.Runs.{list_next, list_end}
use Rattle.store_flush.proofs.listing.list_old.Goals as goal

pub loop-i-init : goal.loop-i-init
loop-i-init c = rest_all _ _ _

pub loop-i-preserved : goal.loop-i-preserved
loop-i-preserved c = list_next _ c.loop-i.invariant _ _ c.loop-i-test.true refl refl

pub returns : goal.returns
returns c = list_end _ c.loop-i.invariant c.loop-i-test.false
