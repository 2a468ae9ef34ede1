-- Alloc: the last of pending, else the number used with generation 1, at the place given.
use Rattle.std.specs.Prelude.{ℕ, ◌+◌, ◌-◌, Bool, false, cond, not, ◌&&◌, List, [], ◌∷◌, ◌++◌, ltb, leb, get_or, set}
use Rattle.refusal.specs.Table.{Rule, Answer, ◌when◌, ◌otherwise◌}
use Rattle.handle.specs.Bits.{MAX, bits_of}
use Rattle.handle.specs.declared.Place.{Place}
use Rattle.id_tables.specs.Head.{flushed, flushed_head}
use Rattle.id_tables.specs.Ids.{Ids, ids_of, entry, room, damaged, generation_at, placed}

abbrev pub has_pending : Ids → Bool
has_pending s = ltb 0 s.head.pending

abbrev pub last_pending : Ids → ℕ
last_pending s = get_or s.pending (s.head.pending - 1) 0

-- number n with this generation at this place
abbrev pub settled : Ids → ℕ → ℕ → Place → Ids
settled s n generation place = placed (ids_of s.head (set s.generations n generation) s.archetypes s.indices s.pending) n place

-- the last pending entry leaves the list, and its number becomes live
abbrev pub popped : Ids → Ids
popped s =
    ids_of (flushed_head s.head.used (s.head.pending - 1) (s.head.live + 1)) s.generations s.archetypes s.indices
    s.pending

-- one more number is used, and live
abbrev pub grown : Ids → Ids
grown s =
    ids_of (flushed_head (s.head.used + 1) s.head.pending (s.head.live + 1)) s.generations s.archetypes s.indices
    s.pending

abbrev pub allocated_last : Ids → Place → ℕ × Ids
allocated_last s place = (bits_of (generation_at s (last_pending s)) (last_pending s), placed (popped s) (last_pending s) place)

abbrev pub allocated_new : Ids → Place → ℕ × Ids
allocated_new s place = (bits_of 1 s.head.used, settled (grown s) s.head.used 1 place)

unfoldable pub alloc_rules : Ids → Place → List Rule
alloc_rules s place =
    entry s false
    ++ 3 when not (flushed s.head)
    ∷ 6 when leb MAX place.index.0
    ∷ 4 when ltb (room s) 1
    ∷ 1 when (has_pending s && damaged s (last_pending s))
    ∷ []

unfoldable pub allocating : Ids → Place → Answer (ℕ × Ids)
allocating s place = alloc_rules s place otherwise cond (has_pending s) (allocated_last s place) (allocated_new s place)
