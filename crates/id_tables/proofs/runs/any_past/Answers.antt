use Rattle.std.proofs.Common.{sym, arith, le-leb}
use borrow.Author.Tests.{lt-leb}
use Rattle.id_tables.proofs.Scanning.{hit, miss, all_seen, none_past, past_cons, past_end}
use Rattle.id_tables.proofs.runs.any_past.Goals as goal
use Rattle.id_tables.proofs.runs.any_past.Goals.{then-limit-number, else-limit-number}

pub returns-in_default : goal.returns-in_default
returns-in_default c = sym (none_past _ _ (λ i. omega (arith, c.in_default.ensures, c.type_inv.numbers i)))

pub loop-number-preserved : goal.loop-number-preserved
loop-number-preserved c =
    let e = past_cons _ _ _ c.loop-number-test.true in
    elim c.if-limit-number.branch [
      | then-limit-number w ↦ hit c.loop-number.invariant e (le-leb _ _ w.if-limit-number.true) w.past-is
      | else-limit-number w ↦ miss c.loop-number.invariant e (lt-leb _ _ w.if-limit-number.false) w.past-is
    ]

pub returns : goal.returns
returns c = rw c.in-Ok.ensures.1 at (all_seen c.loop-number.invariant (past_end _ _ _ c.loop-number-test.false))
