-- Reserve n changes nothing of the tables but their head.
-- Assumes nothing.
use Rattle.std.specs.Prelude.{ℕ, List, refl}
use Rattle.refusal.specs.Table.{left_of}
use Rattle.id_tables.specs.Ids.{Ids}
use Rattle.id_tables.proofs.Heads.{HeadOnly, left_past}
use Rattle.id_batches.specs.Reserve.{entities_reserved, reserving}

pub reserved_head : (s : Ids) (n : ℕ) (out : List ℕ) → HeadOnly s (left_of (reserving s n out) (s, out)).0
unfolding reserving entities_reserved
reserved_head s n out =
    left_past (λ (t : Ids × List ℕ). HeadOnly s t.0) _ _ (s, out) refl (left_past (λ (t : Ids × List ℕ). HeadOnly s t.0) _ _ (s, out) refl refl)
