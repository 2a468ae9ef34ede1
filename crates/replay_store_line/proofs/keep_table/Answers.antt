-- The list from a position on, if it goes so far.
use Rattle.replay_store_line.proofs.Kept.{within, past}
use Rattle.replay_store_line.proofs.keep_table.Goals as goal

pub returns-then-at-list : goal.returns-then-at-list
returns-then-at-list g c = within g.T.Keeps.keeps c.args.list.now c.args.at c.args.values.now _ c.if-at-list.true c.fill.ensures

pub returns-else-at-list : goal.returns-else-at-list
returns-else-at-list g c = past g.T.Keeps.keeps c.args.list.now c.args.at c.args.values.now c.if-at-list.false
