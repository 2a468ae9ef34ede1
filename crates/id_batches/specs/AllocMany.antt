-- Alloc many: the last min(n, pending) entries in ascending position get the first rows, then new numbers. And the state that walks them.
use Rattle.std.specs.Prelude.{ℕ, ◌+◌, ◌-◌, Bool, false, cond, not, ◌&&◌, List, [], ◌∷◌, ◌++◌, ltb, leb, length, get_or, Some, None, Result, Ok, Err}
use Rattle.std.specs.Prelude.{Option as Perhaps}
use Rattle.std.proofs.Math.Option.{Option, none, some}
use Rattle.std.proofs.Math.Seq.{slice}
use Rattle.refusal.specs.Table.{Answer, ◌when◌, ◌or_else◌, ◌otherwise◌}
use Rattle.refusal.specs.declared.Refusal.{Refusal}
use Rattle.handle.specs.Bits.{MAX}
use Rattle.handle.specs.declared.Number.{Number}
use Rattle.id_tables.specs.Head.{flushed, flushed_head}
use Rattle.id_tables.specs.Ids.{Ids, entry, room, any_damaged}
use Rattle.id_tables.specs.Runs.{up_from}
use Rattle.id_batches.specs.Seating.{seated}
use Rattle.id_batches.specs.declared.many.AllocManyState.{AllocManyState}

-- the recycled numbers that are taken, and the new ones
abbrev pub last_pending : Ids → ℕ → List ℕ
last_pending s n = slice (s.head.pending - n) s.head.pending s.pending

abbrev pub new_numbers : Ids → ℕ → List ℕ
new_numbers s n = up_from s.head.used (n - s.head.pending)

abbrev pub alloced_ids : Ids → ℕ → ℕ → ℕ → Ids
alloced_ids s n archetype first =
    seated s (flushed_head (s.head.used + (n - s.head.pending)) (s.head.pending - n) (s.head.live + n))
    (new_numbers s n) (last_pending s n ++ new_numbers s n) archetype first

abbrev pub state_of : ℕ → ℕ → ℕ → ℕ → AllocManyState
state_of position top number end =
    record { position = position; top = top; number = number; end = end }

-- positions in the pending table, whose entries past the new count stay as they were, then the new range
abbrev pub many_state : Ids → ℕ → AllocManyState
many_state s n =
    state_of (s.head.pending - n) s.head.pending s.head.used (s.head.used + (n - s.head.pending))

-- past the first tests. 6: the last index decides, and first is below 2 ^ 32, so that n = 0 takes any
unfoldable pub many_alloced : Ids → ℕ → ℕ → ℕ → Answer (AllocManyState × Ids)
many_alloced s n archetype first =
    3 when not (flushed s.head)
    ∷ 6 when ltb MAX (first + n)
    ∷ 4 when ltb (room s) n
    ∷ 1 when any_damaged s (last_pending s n)
    ∷ []
    otherwise (many_state s n, alloced_ids s n archetype first)

unfoldable pub allocating_many : Ids → ℕ → ℕ → ℕ → Answer (AllocManyState × Ids)
allocating_many s n archetype first = entry s false or_else many_alloced s n archetype first

-- positions are left
abbrev pub in_pending : AllocManyState → Bool
in_pending w = ltb w.position w.top

-- The next number: what the table holds when it is asked, then the new range; after it none, and the state stays.
abbrev pub next_of : AllocManyState → List ℕ → Option ℕ × AllocManyState
next_of w pending =
    cond (in_pending w) (some (get_or pending w.position 0), state_of (w.position + 1) w.top w.number w.end)
    (cond (ltb w.number w.end) (some w.number, state_of w.position w.top (w.number + 1) w.end)
    (none, w))

unfoldable pub walking : AllocManyState → List ℕ → Answer (Option ℕ × AllocManyState)
walking w pending = 13 when (in_pending w && leb (length pending) w.position) ∷ [] otherwise next_of w pending

-- how many numbers are left
abbrev pub left_in : AllocManyState → ℕ
left_in w = (w.top - w.position) + (w.end - w.number)

-- the number of a step, or none after the last, and the state that the step leaves
abbrev pub walked_of : Perhaps (Number × AllocManyState) → Option ℕ
walked_of (Some x) = some x.0.0
walked_of None = none

abbrev pub state_after : AllocManyState → Result (Perhaps (Number × AllocManyState)) Refusal → AllocManyState
state_after w (Ok (Some x)) = x.1
state_after w (Ok None) = w
state_after w (Err r) = w
