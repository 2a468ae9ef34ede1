-- Flush: new numbers first, ascending, generation 1; then pending[max(cursor, 0)..] in order. They get successive rows.
use Prim.{Unit, tt}
use Rattle.std.specs.Prelude.{ℕ, ◌+◌, ◌-◌, false, List, [], ◌∷◌, ◌++◌, ltb}
use Rattle.refusal.specs.Table.{Answer, ◌when◌, ◌or_else◌, ◌otherwise◌}
use Rattle.handle.specs.Bits.{MAX}
use Rattle.id_tables.specs.Head.{free_of, new_of, flushed_head}
use Rattle.id_tables.specs.Ids.{Ids, entry, any_damaged}
use Rattle.id_tables.specs.Lookup.{reserved_old}
use Rattle.id_tables.specs.Runs.{up_from}
use Rattle.id_batches.specs.Seating.{seated}

-- the new numbers that are reserved
abbrev pub reserved_fresh : Ids → List ℕ
reserved_fresh s = up_from s.head.used (new_of s.head.cursor)

-- how many are reserved, new and recycled
abbrev pub reserved_count : Ids → ℕ
reserved_count s = new_of s.head.cursor + (s.head.pending - free_of s.head.cursor)

abbrev pub flushed_ids : Ids → ℕ → ℕ → Ids
flushed_ids s archetype first =
    seated s (flushed_head (s.head.used + new_of s.head.cursor) (free_of s.head.cursor) (s.head.live + reserved_count s))
    (reserved_fresh s) (reserved_fresh s ++ reserved_old s) archetype first

-- past the first tests. 6: the last index decides, and first is below 2 ^ 32, so that a flush of nothing takes any
unfoldable pub reserved_placed : Ids → ℕ → ℕ → Answer (Unit {0} × Ids)
reserved_placed s archetype first =
    6 when ltb MAX (first + reserved_count s)
    ∷ 1 when any_damaged s (reserved_old s)
    ∷ []
    otherwise (tt, flushed_ids s archetype first)

unfoldable pub flushing : Ids → ℕ → ℕ → Answer (Unit {0} × Ids)
flushing s archetype first = entry s false or_else reserved_placed s archetype first
