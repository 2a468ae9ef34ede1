-- `decl::exact::any_above` meets its contract: the iterator tells whether some number is above max.
use Rattle.std.proofs.Common.{rules, tests, ltb, ◌∙◌}
use Rattle.std.proofs.lemmas.Iterator.{YieldsList-from_slice}
use Rattle.std.proofs.lemmas.Iterator.Search.{any_from_yields_List}
use Rattle.decl.proofs.Lists.{above_any}
use Rattle.decl.proofs.exact.any_above.Goals as goal

pub returns : goal.returns
returns c =
    any_from_yields_List (ltb c.args.max) _ _ _ c.any.ensures.ran (YieldsList-from_slice c.args.xs.now cc) (λ x b q k. search (rules, tests))
    ∙ above_any c.args.max c.args.xs.now
