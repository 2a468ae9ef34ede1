-- `borrow_word::any_held` meets its contract: the test of the search is that of the rule.
use Rattle.std.proofs.Common.{rules, eqb, not, sym, ◌∙◌}
use borrow.Author.Tests.{tests}
use Rattle.std.proofs.lemmas.Iterator.{YieldsList-from_slice}
use Rattle.std.proofs.lemmas.Iterator.Search.{any_from_yields_List}
use Rattle.borrow_word.proofs.Laws.{held_any}
use Rattle.borrow_word.proofs.any_held.Goals as goal

pub returns : goal.returns
returns c =
    any_from_yields_List (λ w. not (eqb w 0)) _ _ _ c.any.ensures.ran (YieldsList-from_slice c.args.words.now cc) (λ x b q k. search (rules, tests))
    ∙ sym (held_any _)
