-- `store_spawn_at::is_full` meets its contract: a row that leaves makes room, and else the counts decide.
use Rattle.store_spawn_at.proofs.is_full.Goals as goal

pub returns-then-is_leaving : goal.returns-then-is_leaving
returns-then-is_leaving c = rw (← c.if-is_leaving.ensures)

pub returns : goal.returns
returns c = rw (← c.if-is_leaving.ensures, c.at.ensures, c.at-2.ensures)
