-- `ids::runs::queue` meets its contract. The loop's invariant: what is left to store, stored, makes the whole.
use Prim.Native.Nat.{◌+◌, ◌-◌}
use mathlib.Core.Path.{◌≡◌}
use lib.Seq.{sets}
use Rattle.id_tables.specs.Runs.{up_from}
use Rattle.ids.proofs.runs.queue.Given as goal

abbrev pub invariant-loop-number : goal.invariant-loop-number
invariant-loop-number l =
    sets l.initial.pending l.count (up_from l.from (l.to - l.from)) ≡ sets l.pending (l.count + (l.number - l.from)) (up_from l.number (l.to - l.number))
