-- `borrow_word::shared` meets its contract: each return rewrites with the tests that led there; a mask of 63 ones takes the count.
use Rattle.refusal.specs.Table.{◌or_else◌}
use mathlib.Core.Path.{sym, ◌∙◌}
use lib.Bits.{and_mask}
use borrow.Author.Tests.{eq-eqb, ne_eqb}
use Rattle.borrow_word.specs.Word.{shared_word}
use Rattle.borrow_word.proofs.shared.Goals as goal

pub returns-then-word-eq-COUNT : goal.returns-then-word-eq-COUNT
unfolding shared_word ◌or_else◌
returns-then-word-eq-COUNT c = simp (eq-eqb _ _ (sym (and_mask c.args.word 63) ∙ c.if-word-eq-COUNT.true))

pub returns-then-word-eq1 : goal.returns-then-word-eq1
unfolding shared_word ◌or_else◌
returns-then-word-eq1 c = simp (ne_eqb _ _ (λ e. c.if-word-eq-COUNT.false (and_mask c.args.word 63 ∙ e)), eq-eqb _ _ c.if-word-eq1.true)

pub returns : goal.returns
unfolding shared_word ◌or_else◌
returns c = simp (ne_eqb _ _ (λ e. c.if-word-eq-COUNT.false (and_mask c.args.word 63 ∙ e)), ne_eqb _ _ c.if-word-eq1.false)
