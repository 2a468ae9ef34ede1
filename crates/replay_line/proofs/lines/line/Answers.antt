-- The part that the first number tells.
use Rattle.replay_line.specs.Lines.{line_at}
use Rattle.replay_line.proofs.Parts.{line_past}
use Rattle.replay_line.proofs.lines.line.Goals as goal

pub returns-then-list-at : goal.returns-then-list-at
returns-then-list-at c = line_past c.args.list.now c.args.at c.if-list-at.true

pub returns : goal.returns
unfolding line_at
returns c = c.part.ensures
