-- `store_reads::ask_word` meets its contract: the first tests, then the column that is named.
use mathlib.Core.Path.{sym, ◌∙◌}
use Rattle.refusal.specs.Laws.{past, halted, handed_up}
use Rattle.store_tables.proofs.Entering.{entered}
use Rattle.store_reads.specs.Words.{word_asked}
use Rattle.store_reads.proofs.words.ask_word.Goals as goal

pub returns-in_err-tested : goal.returns-in_err-tested
unfolding word_asked
returns-in_err-tested c = handed_up _ _ c.from_residual.ensures.1 (sym (halted _ _ c.in_err-tested.ensures))

pub find_word-requires : goal.find_word-requires
find_word-requires c = (entered _ _ c.in_ok-tested.ensures).rows.tabled.kept

pub returns : goal.returns
unfolding word_asked
returns c = c.find_word.ensures ∙ sym (past _ _ c.in_ok-tested.ensures)
