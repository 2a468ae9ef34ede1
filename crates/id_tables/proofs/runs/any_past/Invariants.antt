-- `id_tables::runs::any_past` meets its contract. The loop's invariant: what was found so far, or what is left, decides.
use Rattle.std.proofs.Common.{drop}
use Rattle.id_tables.specs.Runs.{any_past}
use Rattle.id_tables.proofs.Scanning.{Sofar}
use Rattle.id_tables.proofs.runs.any_past.Given as goal

abbrev pub invariant-loop-number : goal.invariant-loop-number
invariant-loop-number l = Sofar (any_past l.limit l.numbers) l.past (any_past l.limit (drop l.number-index l.numbers))
