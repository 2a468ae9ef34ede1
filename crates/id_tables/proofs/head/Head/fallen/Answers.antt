-- `id_tables::Head::fallen` meets its contract: past the test 64 bits hold the difference, and it is read back whole.
use Rattle.std.proofs.Common.{sym, arith, rules, w64, SFits}
use Rattle.id_tables.proofs.Falling.{falls, stays, fall_is}
use Rattle.id_tables.proofs.head.Head.fallen.Goals as goal

pub returns-then-fresh-n-gt-DEPTH : goal.returns-then-fresh-n-gt-DEPTH
returns-then-fresh-n-gt-DEPTH c = sym (stays c.args.self c.args.n (omega (arith, c.fresh.ensures)))

pub returns : goal.returns
returns c =
    let f : SFits w64 c.args.self.cursor = search rules in
    rw (falls c.args.self c.args.n (omega (arith, c.fresh.ensures)), fall_is c.args.self.cursor c.args.n f (omega arith) (omega (arith, c.fresh.ensures)) c.from.result c.from.ensures)
