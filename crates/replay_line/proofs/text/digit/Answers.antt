-- The tests of the rule, in its order.
use Rattle.std.proofs.Common.{arith}
use Rattle.std.proofs.lemmas.Bool.Decides.{nat_tests}
use Rattle.replay_line.specs.Text.{digit_of}
use Rattle.replay_line.proofs.text.digit.Goals as goal

pub returns-in-48-to-57-clause-value : goal.returns-in-48-to-57-clause-value
unfolding digit_of
returns-in-48-to-57-clause-value c = grind (arith, nat_tests)

pub returns-in-97-to-102-clause-value : goal.returns-in-97-to-102-clause-value
unfolding digit_of
returns-in-97-to-102-clause-value c = grind (arith, nat_tests)

pub returns-in_default-clause-value : goal.returns-in_default-clause-value
unfolding digit_of
returns-in_default-clause-value c = grind (arith, nat_tests)

pub returns-in_default-2-clause-value : goal.returns-in_default-2-clause-value
unfolding digit_of
returns-in_default-2-clause-value c = grind (arith, nat_tests)

pub returns-in_default-3-clause-value : goal.returns-in_default-3-clause-value
unfolding digit_of
returns-in_default-3-clause-value c = grind (arith, nat_tests)
