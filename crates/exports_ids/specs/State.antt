-- The walking state of an alloc many as four numbers: position, top, number, end.
use Rattle.std.specs.Prelude.{ℕ, List, get_or}
use Rattle.id_batches.specs.declared.many.AllocManyState.{AllocManyState}
use Rattle.id_batches.specs.AllocMany.{state_of}
use Rattle.crossing.specs.Answers.{four}

abbrev pub state_four : AllocManyState → List ℕ
state_four w = four w.position w.top w.number w.end

unfoldable pub state_in : List ℕ → AllocManyState
state_in ws = state_of (get_or ws 0 0) (get_or ws 1 0) (get_or ws 2 0) (get_or ws 3 0)
