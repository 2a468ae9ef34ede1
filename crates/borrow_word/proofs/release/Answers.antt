-- `borrow_word::release` meets its contract: each return rewrites with the tests that led there.
use borrow.Author.Tests.{eq-eqb, ne_eqb}
use Rattle.refusal.specs.Table.{◌or_else◌}
use Rattle.borrow_word.specs.Word.{released_word}
use Rattle.borrow_word.proofs.release.Goals as goal

pub returns-then-word-eq0 : goal.returns-then-word-eq0
unfolding released_word ◌or_else◌
returns-then-word-eq0 c = simp (eq-eqb _ _ c.if-word-eq0.true)

pub returns-then-word-eq1 : goal.returns-then-word-eq1
unfolding released_word ◌or_else◌
returns-then-word-eq1 c = simp (ne_eqb _ _ c.if-word-eq0.false, eq-eqb _ _ c.if-word-eq1.true)

pub returns : goal.returns
unfolding released_word ◌or_else◌
returns c = simp (ne_eqb _ _ c.if-word-eq0.false, ne_eqb _ _ c.if-word-eq1.false)
