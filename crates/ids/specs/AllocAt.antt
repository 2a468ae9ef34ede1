-- Alloc at a chosen handle: a number past used, a pending one, or a live one, which is taken over.
use Rattle.std.specs.Prelude.{ℕ, suc, ◌+◌, ◌-◌, Bool, false, cond, not, ◌&&◌, List, [], ◌∷◌, ◌++◌, ltb, leb, eqb, take, set, replicate}
use Rattle.std.proofs.Math.Option.{Option, none, some}
use Rattle.std.proofs.lemmas.List.Edits.{sets}
use Rattle.refusal.specs.Table.{Rule, Answer, ◌when◌, ◌otherwise◌}
use Rattle.handle.specs.Bits.{MAX}
use Rattle.handle.specs.OnBits.{on_bits}
use Rattle.handle.specs.declared.Place.{Place}
use Rattle.id_tables.specs.declared.head.Head.{Head}
use Rattle.id_tables.specs.Head.{flushed, flushed_head}
use Rattle.id_tables.specs.Ids.{Ids, ids_of, entry, capacity, damaged, index_at, place_at}
use Rattle.id_tables.specs.Runs.{up_from}
use Rattle.ids.specs.Alloc.{last_pending, settled}

-- the first position of n in a list, and the list's length where it has none
unfoldable pub position_of : ℕ → List ℕ → ℕ
position_of n [] = 0
position_of n (m ∷ ms) = cond (eqb m n) 0 (suc (position_of n ms))

-- where n stands first in pending
abbrev pub pending_at : Ids → ℕ → ℕ
pending_at s n = position_of n (take s.head.pending s.pending)

abbrev pub is_pending : Ids → ℕ → Bool
is_pending s n = ltb (pending_at s n) s.head.pending

-- how many numbers lie between used and n
abbrev pub gap : Ids → ℕ → ℕ
gap s n = n - s.head.used

-- n ≥ used: the numbers used to n - 1 become pending, in order, with generation 1 and place (0, MAX)
abbrev pub stretched : Ids → ℕ → Ids
stretched s n =
    ids_of (flushed_head (n + 1) (s.head.pending + gap s n) (s.head.live + 1))
    (sets s.generations s.head.used (replicate (gap s n) 1))
    (sets s.archetypes s.head.used (replicate (gap s n) 0))
    (sets s.indices s.head.used (replicate (gap s n) MAX))
    (sets s.pending s.head.pending (up_from s.head.used (gap s n)))

-- n pending: the last entry is moved into its first position
abbrev pub taken_out : Ids → ℕ → Ids
taken_out s n =
    ids_of (flushed_head s.head.used (s.head.pending - 1) (s.head.live + 1)) s.generations s.archetypes s.indices
    (set s.pending (pending_at s n) (last_pending s))

-- Damage: n is pending with generation 0 or an index, or it is below used, not pending and without a place.
abbrev pub chosen_damaged : Ids → ℕ → Bool
chosen_damaged s n = ltb n s.head.used && cond (is_pending s n) (damaged s n) (eqb (index_at s n) MAX)

-- In each case the generation becomes the handle's. A live number's old place is answered, and live stays.
abbrev pub allocated_at : Ids → Place → ℕ → ℕ → Option Place × Ids
allocated_at s place generation n =
    cond (leb s.head.used n) (none, settled (stretched s n) n generation place)
    (cond (is_pending s n) (none, settled (taken_out s n) n generation place)
    (some (place_at s n), settled s n generation place))

unfoldable pub chosen_rules : Head → ℕ → Place → ℕ → List Rule
chosen_rules head capacity place n =
    3 when not (flushed head)
    ∷ 6 when leb MAX place.index.0
    ∷ 4 when leb capacity n
    ∷ []

unfoldable pub alloc_at : Ids → Place → ℕ → ℕ → Answer (Option Place × Ids)
alloc_at s place generation n =
    chosen_rules s.head (capacity s) place n
    ++ 1 when chosen_damaged s n
    ∷ []
    otherwise allocated_at s place generation n

unfoldable pub allocating_at : Ids → ℕ → Place → Answer (Option Place × Ids)
allocating_at s bits place = on_bits (entry s false) bits (alloc_at s place)
