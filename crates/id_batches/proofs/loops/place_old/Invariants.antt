-- `id_batches::loops::place_old` meets its contract. The loop's invariant: of each table, what is left to set.
use lib.ListN.{length, replicate}
use Rattle.id_tables.specs.Runs.{up_from}
use Rattle.id_batches.proofs.Setting.{Rest}
use Rattle.id_batches.proofs.loops.place_old.Given as goal

abbrev pub invariant-loop-i : goal.invariant-loop-i
invariant-loop-i l = (Rest l.initial.archetypes l.archetypes l.numbers (replicate (length l.numbers) l.archetype) l.i)
    × (Rest l.initial.indices l.indices l.numbers (up_from l.first.0 (length l.numbers)) l.i)
