-- `id_tables::IdTables::len` meets its contract: past the first tests, the live count.
use Rattle.std.proofs.Common.{sym}
use Rattle.refusal.specs.Laws.{handed_up, past, halted}
use Rattle.id_tables.specs.Lookup.{counting}
use Rattle.id_tables.proofs.tables.IdTables.len.Goals as goal

pub returns-in_err-tested : goal.returns-in_err-tested
unfolding counting
returns-in_err-tested c = handed_up _ _ c.from_residual.ensures.1 (sym (halted _ _ c.in_err-tested.ensures))

pub returns : goal.returns
unfolding counting
returns c = sym (past _ _ c.in_ok-tested.ensures)
