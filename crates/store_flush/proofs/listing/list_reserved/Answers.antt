-- `store_flush::listing::list_reserved` meets its contract: two runs make one.
use Rattle.store_flush.proofs.Ways.{lists_reserved}
use Rattle.store_flush.proofs.listing.list_reserved.Goals as goal

pub returns : goal.returns
returns c = lists_reserved c.args.head _ _ _ _ _ _ _ c.fresh-fresh.ensures c.free-free.ensures c.list_new.ensures c.list_old.ensures
