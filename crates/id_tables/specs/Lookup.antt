-- The calls that look, or set without handing a number out: contains, get, set place, resolve, len, clear.
use Prim.{Unit, tt}
use Rattle.std.specs.Prelude.{ℕ, ◌+◌, Bool, false, cond, not, ◌&&◌, ◌||◌, leb, List, [], ◌∷◌, ◌++◌, ◌==◌, nat_le, nat_lt}
use Rattle.std.proofs.Math.Seq.{slice}
use Rattle.refusal.specs.Table.{Answer, granted, ◌when◌, ◌otherwise◌}
use Rattle.handle.specs.Bits.{MAX, bits_of, place_of}
use Rattle.handle.specs.OnBits.{on_bits}
use Rattle.handle.specs.declared.Place.{Place}
use Rattle.id_tables.specs.declared.head.Head.{Head}
use Rattle.id_tables.specs.Head.{free_of, new_of, flushed_head}
use Rattle.id_tables.specs.Ids.{Ids, ids_of, entry, live, place_at, generation_at, placed}

-- one of these is n
unfoldable pub any_is : ℕ → List ℕ → Bool
any_is n [] = false
any_is n (m ∷ ms) = m == n || any_is n ms

-- the recycled numbers that are reserved: the pending entries from the cursor on
abbrev pub reserved_old : Ids → List ℕ
reserved_old s = slice (free_of s.head.cursor) s.head.pending s.pending

-- one of them, at its generation
unfoldable pub is_reserved_old : Ids → ℕ → ℕ → Bool
is_reserved_old s generation n = nat_lt n s.head.used && (generation_at s n == generation && any_is n (reserved_old s))

-- a reserved new number, which has generation 1
unfoldable pub reserved_new : Head → ℕ → ℕ → Bool
reserved_new h generation n = generation == 1 && (nat_le h.used n && nat_lt n (h.used + new_of h.cursor))

-- Contains: a live handle; a recycled number that is reserved; a reserved new number
unfoldable pub is_contained : Ids → ℕ → ℕ → Bool
is_contained s generation n = live s generation n || (is_reserved_old s generation n || reserved_new s.head generation n)

unfoldable pub containing : Ids → ℕ → Answer Bool
containing s bits = on_bits (entry s false) bits (λ generation n. granted (is_contained s generation n))

-- Get: a live number's place; for a reserved new number (0, MAX)
unfoldable pub place_got : Ids → ℕ → ℕ → Answer Place
place_got s generation n =
    2 when not (live s generation n || reserved_new s.head generation n)
    ∷ []
    otherwise cond (live s generation n) (place_at s n) (place_of 0 MAX)

unfoldable pub getting : Ids → ℕ → Answer Place
getting s bits = on_bits (entry s false) bits (place_got s)

-- Set the place of a live number
unfoldable pub place_set : Ids → Place → ℕ → ℕ → Answer (Unit {0} × Ids)
place_set s place generation n =
    6 when leb MAX place.index.0
    ∷ 2 when not (live s generation n)
    ∷ []
    otherwise (tt, placed s n place)

unfoldable pub setting_place : Ids → ℕ → Place → Answer (Unit {0} × Ids)
setting_place s bits place = on_bits (entry s false) bits (place_set s place)

-- Resolve: below used the stored generation (0 there is damage); a reserved new number, 1
unfoldable pub resolving : Ids → ℕ → Answer ℕ
resolving s n =
    entry s false
    ++ 2 when leb (s.head.used + new_of s.head.cursor) n
    ∷ 1 when (nat_lt n s.head.used && generation_at s n == 0)
    ∷ []
    otherwise bits_of (cond (nat_lt n s.head.used) (generation_at s n) 1) n

-- Len: the live count
unfoldable pub counting : Ids → Answer ℕ
counting s = entry s false otherwise s.head.live

-- Clear: used, pending, cursor and live become 0; nothing else changes
abbrev pub cleared : Ids → Ids
cleared s = ids_of (flushed_head 0 0 0) s.generations s.archetypes s.indices s.pending

unfoldable pub clearing : Ids → Answer (Unit {0} × Ids)
clearing s = entry s false otherwise (tt, cleared s)
