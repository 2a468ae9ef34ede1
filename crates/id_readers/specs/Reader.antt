-- The reader of a reservation: it holds the lent part of the pending list that the reservation takes, and the new range, and hands their handles out one by one.
use Prim.{Unit, tt}
use Rattle.std.specs.Prelude.{ℕ, ◌+◌, ◌-◌, Bool, false, cond, ◌&&◌, List, [], ◌∷◌, ltb, leb, eqb, length, get_or, Some, None}
use Rattle.std.specs.Prelude.{Option as Perhaps}
use Rattle.std.proofs.Math.Option.{Option, none, some}
use Rattle.refusal.specs.Table.{Answer, granted, refused, ◌when◌, ◌or_else◌, ◌otherwise◌}
use Rattle.handle.specs.Bits.{bits_of}
use Rattle.handle.specs.declared.Handle.{Handle}
use Rattle.id_tables.specs.Head.{free_of, new_of, fallen}
use Rattle.id_tables.specs.Ids.{Ids, ids_of, entry, room, any_damaged}
use Rattle.id_batches.specs.Reserve.{recycled}
use Rattle.id_readers.specs.declared.reader.ReserveEntitiesIterator.{ReserveEntitiesIterator}
use Rattle.id_readers.specs.declared.spans.Span.{Span}

-- the part of the pending list and the position in it, then the new numbers from `number` to `end`
pub record Reader : Type 0 where
  pub recycled : List ℕ
  pub position : ℕ
  pub number : ℕ
  pub end : ℕ

abbrev pub reader_at : List ℕ → ℕ → ℕ → ℕ → Reader
reader_at part position number end =
    record { recycled = part; position = position; number = number; end = end }

abbrev pub reader_of : ReserveEntitiesIterator → Reader
reader_of r = reader_at r.recycled.now r.position r.number r.end

-- Made by reserving n: the same refusals, without an output, and the cursor falls by n.
unfoldable pub part_reserved : Ids → ℕ → Answer (Unit {0} × Ids)
part_reserved s n =
    4 when ltb (room s) n
    ∷ 1 when any_damaged s (recycled s n)
    ∷ []
    otherwise (tt, ids_of (fallen s.head n) s.generations s.archetypes s.indices s.pending)

unfoldable pub reserving_part : Ids → ℕ → Answer (Unit {0} × Ids)
reserving_part s n = entry s false or_else part_reserved s n

-- the first new number
abbrev pub first_new : Ids → ℕ
first_new s = s.head.used + new_of s.head.cursor

-- the reader of the whole reservation: the recycled numbers, then the new ones
abbrev pub reader_in : Ids → ℕ → Reader
reader_in s n = reader_at (recycled s n) 0 (first_new s) (first_new s + (n - free_of s.head.cursor))

-- the same as positions in the pending list
abbrev pub span_at : ℕ → ℕ → ℕ → ℕ → ℕ × ℕ × ℕ × ℕ
span_at from to number end = (from, to, number, end)

abbrev pub span_of : Span → ℕ × ℕ × ℕ × ℕ
span_of r = span_at r.from r.to r.number r.end

abbrev pub span_in : Ids → ℕ → ℕ × ℕ × ℕ × ℕ
span_in s n = span_at (free_of s.head.cursor - n) (free_of s.head.cursor) (first_new s) (first_new s + (n - free_of s.head.cursor))

-- a value beside what a granted call leaves
abbrev pub beside : {A S : Type 0} → Answer (Unit {0} × S) → A → Answer (A × S)
beside (granted x) v = granted (v, x.1)
beside (refused n) v = refused n

-- the reservation as its span, past the first tests and whole, and as its reader
unfoldable pub span_reserved : Ids → ℕ → Answer ((ℕ × ℕ × ℕ × ℕ) × Ids)
span_reserved s n = beside (part_reserved s n) (span_in s n)

unfoldable pub reserving_span : Ids → ℕ → Answer ((ℕ × ℕ × ℕ × ℕ) × Ids)
reserving_span s n = beside (reserving_part s n) (span_in s n)

unfoldable pub reserving_reader : Ids → ℕ → Answer (Reader × Ids)
reserving_reader s n = beside (reserving_part s n) (reader_in s n)

-- positions are left, and the number there
abbrev pub in_part : Reader → Bool
in_part w = ltb w.position (length w.recycled)

abbrev pub number_here : Reader → ℕ
number_here w = get_or w.recycled w.position 0

-- The next handle: a recycled number with the generation that is stored, then a new one with generation 1; after the range none, and the reader stays.
abbrev pub next_handle : Reader → List ℕ → Option ℕ × Reader
next_handle w generations =
    cond (in_part w)
    (some (bits_of (get_or generations (number_here w) 0) (number_here w)), reader_at w.recycled (w.position + 1) w.number w.end)
    (cond (ltb w.number w.end) (some (bits_of 1 w.number), reader_at w.recycled w.position (w.number + 1) w.end)
    (none, w))

unfoldable pub stepping : Reader → List ℕ → Answer (Option ℕ × Reader)
stepping w generations =
    13 when (in_part w && leb (length generations) (number_here w))
    ∷ 1 when (in_part w && eqb (get_or generations (number_here w) 0) 0)
    ∷ []
    otherwise next_handle w generations

-- how many handles are left
abbrev pub left_in : Reader → ℕ
left_in w = (length w.recycled - w.position) + (w.end - w.number)

-- the bits of the handle that a step gives, or none after the last
abbrev pub handed_of : Perhaps Handle → Option ℕ
handed_of (Some h) = some h.0
handed_of None = none
