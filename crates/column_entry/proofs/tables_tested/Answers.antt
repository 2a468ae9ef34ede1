-- `column_entry::tables_tested` meets its contract: the declaration's tests, then the lengths.
use Rattle.refusal.specs.Laws.{handed_up}
use Rattle.column_entry.proofs.Keeping.{declaration_halts, lengths_told}
use Rattle.column_entry.proofs.tables_tested.Goals as goal

pub returns-in_err-all : goal.returns-in_err-all
returns-in_err-all c = handed_up _ _ c.from_residual.ensures.1 (declaration_halts _ _ c.in_err-all.ensures)

pub returns : goal.returns
returns c = lengths_told _ _ c.in_ok-all.ensures c.lengths_tested.ensures
