-- `id_batches::many::many_placed` meets its contract: what it takes is seated, in two runs.
use borrow.Author.Rules.{rules}
use Rattle.id_batches.proofs.Ways.{many_below, many_seated}
use Rattle.id_batches.proofs.many.many_placed.Goals as goal

pub returns : goal.returns
returns c =
    many_seated _ _ _ _ _ _ c.saturating_sub-left.ensures c.saturating_sub-fresh.ensures c.requires.entry_ok _ _ _ _ _ _ c.place_old.ensures c.place_new.ensures c.flushed.ensures

pub place_old-requires : goal.place_old-requires
place_old-requires c = record { numbers_bound = search rules; numbers_value = many_below _ _ _ c.saturating_sub-left.ensures c.requires.entry_ok c.requires.n_bound.2 }
