-- `column_entry::counts_tested` meets its contract: counts and rows are compared as far as there are both.
use Rattle.std.proofs.Common.{rules}
use borrow.Author.Tests.{tests}
use Rattle.std.proofs.lemmas.Iterator.{cases_from_any, YieldsList-from_slice, YieldsList-from_zip}
use Rattle.column_entry.proofs.Loops.{Over, Within, counts_over, counts_passed}
use Rattle.column_entry.proofs.counts_tested.Goals as goal

pub returns-then-any : goal.returns-then-any
returns-then-any c =
    counts_over _ _
    (cases_from_any c.any.new.self _ _ Over Within c.if-any.ensures.ran
    (YieldsList-from_zip (YieldsList-from_slice c.args.rows.now cc) (YieldsList-from_slice c.args.counts.now cc))
    (λ x q k. search (rules, tests)) (λ x q k. search (rules, tests)))

pub returns : goal.returns
returns c =
    counts_passed _ _
    (cases_from_any c.any.new.self _ _ Over Within c.if-any.ensures.ran
    (YieldsList-from_zip (YieldsList-from_slice c.args.rows.now cc) (YieldsList-from_slice c.args.counts.now cc))
    (λ x q k. search (rules, tests)) (λ x q k. search (rules, tests)))
