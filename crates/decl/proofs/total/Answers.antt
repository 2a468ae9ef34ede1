-- `decl::total` meets its contract: the iterator's sum is the rules', and each number has 32 bits.
use Rattle.std.proofs.Common.{rules, of_calls, sym, ◌≡◌, ◌∙◌, arith}
use Rattle.std.specs.List as whole
use Rattle.decl.proofs.Lists.{sum_is, sum_in}
use Rattle.decl.proofs.total.Goals as goal

pub returns : goal.returns
returns c =
    let e : c.sum.result ≡ whole.sum c.args.xs.now = search (rules, of_calls) in
    let is = e ∙ sym (sum_is c.args.xs.now) in
    (is, omega (arith, is, sum_in 4294967295 c.args.xs.now (λ k. omega (arith, c.type_inv.xs k))))
