-- `ids::take_chosen::take_past` meets its contract: the gap is filled, then the number is settled.
use Rattle.id_tables.specs.Ids.{ids_of}
use Rattle.ids.proofs.Choosing.{past_left}
use Rattle.ids.proofs.take_chosen.take_past.Goals as goal

pub returns : goal.returns
returns c = past_left (ids_of c.args.head.now c.args.generations.now c.args.archetypes.now c.args.indices.now c.args.pending.now) _ _ _ _ _ _ _ _ _ _ _ c.stretch.ensures c.settle.ensures c.flushed.ensures
