-- `borrow_word::unique` meets its contract: each return rewrites with the test that led there.
use borrow.Author.Tests.{eq-eqb, ne_eqb}
use Rattle.refusal.specs.Table.{◌or_else◌}
use Rattle.borrow_word.specs.Word.{unique_word}
use Rattle.borrow_word.proofs.unique.Goals as goal

pub returns-then-word-ne0 : goal.returns-then-word-ne0
unfolding unique_word ◌or_else◌
returns-then-word-ne0 c = simp (ne_eqb _ _ c.if-word-ne0.true)

pub returns : goal.returns
unfolding unique_word ◌or_else◌
returns c = simp (eq-eqb _ _ c.if-word-ne0.false)
