-- `id_tables::IdTables::clear` meets its contract: past the first tests, the empty head.
use Rattle.std.proofs.Common.{refl}
use Rattle.refusal.specs.Laws.{handed_up, grant, refuse, past, halted}
use Rattle.id_tables.specs.Lookup.{clearing}
use Rattle.id_tables.proofs.tables.IdTables.clear.Goals as goal

pub returns-in_err-tested : goal.returns-in_err-tested
unfolding clearing
returns-in_err-tested c = rw (handed_up _ _ c.from_residual.ensures.1 refl) (refuse (halted _ _ c.in_err-tested.ensures))

pub returns : goal.returns
unfolding clearing
returns c = rw c.flushed-self.ensures (grant (past _ _ c.in_ok-tested.ensures))
