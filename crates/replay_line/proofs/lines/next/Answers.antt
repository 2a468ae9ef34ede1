-- The line's count and what is left decide.
use Rattle.std.proofs.Common.{arith}
use Rattle.replay_line.specs.Lines.{next_at}
use Rattle.replay_line.proofs.lines.next.Goals as goal

pub returns-then-list-at : goal.returns-then-list-at
unfolding next_at
returns-then-list-at c = omega arith

pub returns-then-left-count : goal.returns-then-left-count
unfolding next_at
returns-then-left-count c = omega arith

pub returns : goal.returns
unfolding next_at
returns c = omega arith
