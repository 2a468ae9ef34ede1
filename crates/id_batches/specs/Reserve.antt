-- Reserve n at once: the cursor falls by n. The last of the free entries in ascending position, then new numbers.
use Prim.{Unit, tt}
use Rattle.std.specs.Prelude.{ℕ, ◌+◌, ◌-◌, List, [], ◌∷◌, ◌++◌, map, ltb, length, get_or, drop}
use Rattle.std.proofs.Math.Seq.{slice}
use Rattle.refusal.specs.Table.{Answer, ◌when◌, ◌or_else◌, ◌otherwise◌}
use Rattle.handle.specs.Bits.{bits_of}
use Rattle.id_tables.specs.Head.{free_of, new_of, fallen}
use Rattle.id_tables.specs.Ids.{Ids, ids_of, entry, room, any_damaged}
use Rattle.id_tables.specs.Runs.{up_from}

-- the recycled numbers that a reservation of n takes
abbrev pub recycled : Ids → ℕ → List ℕ
recycled s n = slice (free_of s.head.cursor - n) (free_of s.head.cursor) s.pending

-- and the new ones
abbrev pub fresh : Ids → ℕ → List ℕ
fresh s n = up_from (s.head.used + new_of s.head.cursor) (n - free_of s.head.cursor)

-- the handles of recycled numbers, with the generations that are stored
unfoldable pub old_handles : List ℕ → List ℕ → List ℕ
old_handles generations numbers = map (λ n. bits_of (get_or generations n 0) n) numbers

-- and of new ones, which have generation 1
unfoldable pub new_handles : List ℕ → List ℕ
new_handles numbers = map (bits_of 1) numbers

abbrev pub handles : Ids → ℕ → List ℕ
handles s n = old_handles s.generations (recycled s n) ++ new_handles (fresh s n)

-- past the first tests
unfoldable pub entities_reserved : Ids → ℕ → List ℕ → Answer (Unit {0} × (Ids × List ℕ))
entities_reserved s n out =
    4 when ltb (room s) n
    ∷ 1 when any_damaged s (recycled s n)
    ∷ []
    otherwise (tt, (ids_of (fallen s.head n) s.generations s.archetypes s.indices s.pending, handles s n ++ drop n out))

unfoldable pub reserving : Ids → ℕ → List ℕ → Answer (Unit {0} × (Ids × List ℕ))
reserving s n out = entry s (ltb (length out) n) or_else entities_reserved s n out
