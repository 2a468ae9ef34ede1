-- What was read has places.
use Rattle.std.proofs.Common.{◌≤◌, length}
use Rattle.replay_line.proofs.input.read_full.Given as goal

abbrev pub invariant-loop : goal.invariant-loop
invariant-loop g l = l.n ≤ length l.text
