use Rattle.std.proofs.Common.{eq-eqb, ne_eqb}
use Rattle.id_tables.proofs.Scanning.{hit, miss, all_seen, any_cons, any_end}
use Rattle.id_tables.proofs.runs.any_is.Goals as goal
use Rattle.id_tables.proofs.runs.any_is.Goals.{then-entry-number, else-entry-number}

pub loop-entry-preserved : goal.loop-entry-preserved
loop-entry-preserved c =
    let e = any_cons _ _ _ c.loop-entry-test.true in
    elim c.if-entry-number.branch [
      | then-entry-number w ↦ hit c.loop-entry.invariant e (eq-eqb _ _ w.if-entry-number.true) w.found-is
      | else-entry-number w ↦ miss c.loop-entry.invariant e (ne_eqb _ _ w.if-entry-number.false) w.found-is
    ]

pub returns : goal.returns
returns c = all_seen c.loop-entry.invariant (any_end _ _ _ c.loop-entry-test.false)
