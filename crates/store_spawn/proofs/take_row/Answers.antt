-- `store_spawn::take_row` meets its contract: the next number is given, and takes the row.
use Rattle.store_spawn.proofs.Taking.{gives_there, has_spawned}
use Rattle.store_spawn.proofs.take_row.Goals as goal

pub returns-in_err-handle : goal.returns-in_err-handle
returns-in_err-handle c = absurd (gives_there _ _ _ _ c.requires _ c.at.ensures c.in_err-handle.ensures)

pub returns : goal.returns
returns c = has_spawned _ _ _ _ c.requires _ c.at.ensures _ _ c.in_ok-handle.ensures _ c.id-number.ensures _ c.seat.ensures
