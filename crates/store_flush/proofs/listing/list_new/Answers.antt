use mathlib.Core.Path.{refl}
use Rattle.id_batches.proofs.Setting.{rest_all, up_in, up_here, up_end}
use Rattle.store_flush.proofs.Runs.{list_next, list_end}
use Rattle.store_flush.proofs.listing.list_new.Goals as goal

pub loop-i-init : goal.loop-i-init
loop-i-init c = rest_all _ _ _

pub loop-i-preserved : goal.loop-i-preserved
loop-i-preserved c = list_next _ c.loop-i.invariant _ _ (up_in _ c.loop-i-test.true) refl (up_here _ c.loop-i-test.true)

pub returns : goal.returns
returns c = list_end _ c.loop-i.invariant (up_end _ c.loop-i-test.false)
