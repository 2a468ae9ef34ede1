-- The head: used count, pending count, signed cursor, live count, and the head rule.
use Rattle.std.specs.Prelude.{ℕ, suc, ◌+◌, ◌-◌, ◌^◌, Bool, cond, not, ◌&&◌, List, [], ◌∷◌, ℤ, pos, negsuc, ◌-ℤ◌, ◌==◌, nat_le, nat_lt}
use Rattle.refusal.specs.Table.{Rule, ◌when◌}
use Rattle.id_tables.specs.declared.head.Head.{Head}

-- The cursor as two counts: max(cursor, 0), the free entries of pending, and max(-cursor, 0), the new numbers that are reserved.
abbrev pub free_of : ℤ → ℕ
free_of (pos n) = n
free_of (negsuc n) = 0

abbrev pub new_of : ℤ → ℕ
new_of (pos n) = 0
new_of (negsuc n) = suc n

-- Flushed: cursor = pending count
unfoldable pub flushed : Head → Bool
flushed h = free_of h.cursor == h.pending && new_of h.cursor == 0

-- the head of these counts with nothing reserved
abbrev pub flushed_head : ℕ → ℕ → ℕ → Head
flushed_head used pending live = record { used = used; pending = pending; cursor = pos pending; live = live }

-- the head with its cursor fallen by n
abbrev pub fallen : Head → ℕ → Head
fallen h n = record { used = h.used; pending = h.pending; cursor = h.cursor -ℤ pos n; live = h.live }

-- the same where 64 bits hold that cursor, and else the head as it is: a step's promise, of which no rule speaks
unfoldable pub fallen_fit : Head → ℕ → Head
fallen_fit h n = cond (nat_le (new_of h.cursor + n) (2 ^ 63)) (fallen h n) h

-- the head rule, over the capacity
unfoldable pub head_rules : Head → ℕ → List Rule
head_rules h capacity =
    1 when nat_lt capacity h.used
    ∷ 1 when nat_lt h.used h.pending
    ∷ 1 when nat_lt h.pending (free_of h.cursor)
    ∷ 1 when nat_lt (capacity - h.used) (new_of h.cursor)
    ∷ 1 when not (h.live == h.used - h.pending)
    ∷ []

-- numbers neither live nor reserved: capacity - used + cursor
abbrev pub room_in : Head → ℕ → ℕ
room_in h capacity = free_of h.cursor + (capacity - (h.used + new_of h.cursor))
