-- `id_tables::runs::any_unfit` meets its contract. The loop's invariant: what the count of zeros and the shared bits say so far, or what is left, decides.
use Rattle.std.proofs.Common.{◌≤◌, length, drop}
use Rattle.handle.specs.Bits.{MAX}
use Rattle.id_tables.specs.Ids.{any_damaged_in}
use Rattle.id_tables.proofs.Scanning.{Sofar, lost}
use Rattle.id_tables.proofs.runs.any_unfit.Given as goal

abbrev pub invariant-loop-number : goal.invariant-loop-number
invariant-loop-number l =
    (Sofar (any_damaged_in (length l.generations) l.generations l.indices l.numbers) (lost l.zeros l.shared) (any_damaged_in (length l.generations) l.generations l.indices (drop l.number-index l.numbers)))
    × (l.zeros ≤ l.number-index)
    × (l.shared ≤ MAX)
