-- `exports_columns::verdict_columns_allocate` meets its contract.
use mathlib.Core.Path.{refl}
use Rattle.crossing.proofs.Telling.{told_by, crossed}
use Rattle.exports_columns.proofs.verdict_columns_allocate.Goals as goal

pub returns : goal.returns
returns c = crossed c.allocate.ensures (told_by _ (λ _. refl) _ c.cross.ensures)
