-- `decl::exact::is_rising` meets its contract: the library compares each number with the next.
use Rattle.std.proofs.Common.{rules, tests, ltb}
use Rattle.std.proofs.lemmas.List.Sorted.{answers_always}
use Rattle.decl.proofs.Lists.{rising_answer}
use Rattle.decl.proofs.exact.is_rising.Goals as goal

pub returns : goal.returns
returns c = rising_answer c.args.xs.now _ (c.is_sorted_by.ensures.cases ltb (answers_always _ _ _ (λ f a r q k. search (rules, tests))))
