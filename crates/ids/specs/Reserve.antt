-- Reserve one number: nothing but the cursor changes.
use Rattle.std.specs.Prelude.{ℕ, ◌+◌, ◌-◌, Bool, false, cond, ◌&&◌, [], ◌∷◌, ◌++◌, ltb, get_or}
use Rattle.refusal.specs.Table.{Answer, ◌when◌, ◌otherwise◌}
use Rattle.handle.specs.Bits.{bits_of}
use Rattle.id_tables.specs.Head.{free_of, new_of, fallen}
use Rattle.id_tables.specs.Ids.{Ids, ids_of, entry, room, damaged, generation_at}

-- a pending entry is free: c > 0
abbrev pub has_free : Ids → Bool
has_free s = ltb 0 (free_of s.head.cursor)

-- pending[c - 1]
abbrev pub last_free : Ids → ℕ
last_free s = get_or s.pending (free_of s.head.cursor - 1) 0

-- Reserve one at c > 0 gives pending[c - 1] with its generation, else the new number used - c with generation 1
abbrev pub reserved_number : Ids → ℕ
reserved_number s = cond (has_free s) (last_free s) (s.head.used + new_of s.head.cursor)

abbrev pub reserved_generation : Ids → ℕ
reserved_generation s = cond (has_free s) (generation_at s (last_free s)) 1

-- the cursor falls by 1
abbrev pub reserved_ids : Ids → Ids
reserved_ids s = ids_of (fallen s.head 1) s.generations s.archetypes s.indices s.pending

-- past the first tests
unfoldable pub next_reserved : Ids → Answer ℕ
next_reserved s =
    4 when ltb (room s) 1
    ∷ 1 when (has_free s && damaged s (last_free s))
    ∷ []
    otherwise bits_of (reserved_generation s) (reserved_number s)

unfoldable pub reserving : Ids → Answer (ℕ × Ids)
reserving s =
    entry s false
    ++ 4 when ltb (room s) 1
    ∷ 1 when (has_free s && damaged s (last_free s))
    ∷ []
    otherwise (bits_of (reserved_generation s) (reserved_number s), reserved_ids s)
