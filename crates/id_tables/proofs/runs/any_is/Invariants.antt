-- `id_tables::runs::any_is` meets its contract. The loop's invariant: what was found so far, or what is left, decides.
use Rattle.std.proofs.Common.{drop}
use Rattle.id_tables.specs.Lookup.{any_is}
use Rattle.id_tables.proofs.Scanning.{Sofar}
use Rattle.id_tables.proofs.runs.any_is.Given as goal

abbrev pub invariant-loop-entry : goal.invariant-loop-entry
invariant-loop-entry l = Sofar (any_is l.number l.entries) l.found (any_is l.number (drop l.entry-index l.entries))
