-- Reserve one changes nothing of the tables but their head.
-- Assumes nothing.
use Rattle.std.specs.Prelude.{refl}
use Rattle.refusal.specs.Table.{left_of}
use Rattle.id_tables.specs.Ids.{Ids}
use Rattle.id_tables.proofs.Heads.{HeadOnly, left_past}
use Rattle.ids.specs.Reserve.{reserving}

pub reserved_head : (s : Ids) → HeadOnly s (left_of (reserving s) s)
unfolding reserving
reserved_head s = left_past (HeadOnly s) _ _ s refl refl
