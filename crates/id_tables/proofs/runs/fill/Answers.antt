-- `id_tables::runs::fill` meets its contract: the entries that the table has are filled, and of the others none is stored.
use Rattle.std.proofs.Common.{◌-◌, length, min, take, drop, ◌≡◌, ◌<◌, ◌≤◌, ◌∙◌, arith, length-take, length-drop}
use Rattle.id_tables.proofs.Filling.{fill_none, fill_some}
use Rattle.id_tables.proofs.runs.fill.Goals as goal

pub returns-then-from-end : goal.returns-then-from-end
returns-then-from-end c =
    let l = c.args.table.now in
    let n : length (take (min c.args.to (length l) - c.args.from) (drop c.args.from l)) ≡ min c.args.to (length l) - c.args.from = simp (length-take, length-drop) (omega arith) in
    let h : c.args.from < min c.args.to (length l) = omega arith in
    rw c.min-end.ensures (fill_some l c.args.from c.args.to c.args.value _ h (c.fill.ensures.after (λ y e. e) ∙ rw (c.min-end.ensures, n)))

pub returns-else-from-end : goal.returns-else-from-end
returns-else-from-end c = let h : min c.args.to (length c.args.table.now) ≤ c.args.from = omega arith in fill_none _ _ _ _ h
