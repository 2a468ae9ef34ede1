-- `id_batches::many::alloc_many` meets its contract: the first tests, then what is left.
use Rattle.refusal.specs.Laws.{via, halted, past}
use Rattle.id_tables.proofs.Entering.{entry_ok}
use Rattle.id_batches.specs.AllocMany.{allocating_many}
use Rattle.id_batches.proofs.Upward.{hands_up}
use Rattle.id_batches.proofs.many.alloc_many.Goals as goal

pub returns-in_err-tested : goal.returns-in_err-tested
unfolding allocating_many
returns-in_err-tested c = hands_up _ _ c.from_residual.ensures.1 (halted _ _ c.in_err-tested.ensures)

pub many_alloced-requires : goal.many_alloced-requires
many_alloced-requires c = entry_ok _ _ c.in_ok-tested.ensures

pub returns : goal.returns
unfolding allocating_many
returns c = via (past _ _ c.in_ok-tested.ensures) c.many_alloced.ensures
