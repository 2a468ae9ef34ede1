-- The free list: the handles of pending[0..max(cursor, 0)], in order.
use Rattle.std.specs.Prelude.{ℕ, List, [], ◌∷◌, ◌++◌, ltb, length, drop}
use Rattle.std.proofs.Math.Seq.{slice}
use Rattle.refusal.specs.Table.{Answer, ◌when◌, ◌or_else◌, ◌otherwise◌}
use Rattle.id_tables.specs.Head.{free_of}
use Rattle.id_tables.specs.Ids.{Ids, entry, any_damaged}
use Rattle.id_batches.specs.Reserve.{old_handles}

-- the free numbers
abbrev pub free_ones : Ids → List ℕ
free_ones s = slice 0 (free_of s.head.cursor) s.pending

-- past the first tests: how many there are
unfoldable pub free_listed : Ids → List ℕ → Answer (ℕ × List ℕ)
free_listed s out =
    1 when any_damaged s (free_ones s)
    ∷ []
    otherwise (free_of s.head.cursor, old_handles s.generations (free_ones s) ++ drop (free_of s.head.cursor) out)

unfoldable pub listing : Ids → List ℕ → Answer (ℕ × List ℕ)
listing s out = entry s (ltb (length out) (free_of s.head.cursor)) or_else free_listed s out
