-- A number's own place, and a row that leaves its archetype: whenever the last row falls into the hole, its number learns the place.
use Rattle.std.specs.Prelude.{ℕ, Bool, cond, not, ◌&&◌, ◌||◌, List, ltb, leb, eqb, get_or}
use Rattle.handle.specs.Bits.{place_of}
use Rattle.id_tables.specs.Ids.{Ids, index_at, placed}
use Rattle.decl.specs.Decl.{archetypes, sizes_of}
use Rattle.row_step.specs.Tables.{number_in, count_of, last_of, removed}
use Rattle.column_entry.specs.Entry.{block_in}
use Rattle.store_steps.specs.Seats.{seated_rows}
use Rattle.store_tables.specs.Store.{Store, store_of, with_rows}

-- the number in row r of archetype a
abbrev pub number_at : Store → ℕ → ℕ → ℕ
number_at s a r = number_in (block_in s.decl a) s.rows r

-- the archetype and the row of number n's place
abbrev pub archetype_of : Store → ℕ → ℕ
archetype_of s n = get_or s.ids.archetypes n 0

abbrev pub row_of : Store → ℕ → ℕ
row_of s n = index_at s.ids n

-- Own place: a row that holds the number
unfoldable pub owns : Store → ℕ → Bool
owns s n =
    ltb (archetype_of s n) (archetypes s.decl)
    && (ltb (row_of s n) (count_of s.rows (archetype_of s n))
    && eqb (number_at s (archetype_of s n) (row_of s n)) n)

-- the number in the last row of archetype a
abbrev pub last_number : Store → ℕ → ℕ
last_number s a = number_at s a (last_of s.rows a)

abbrev pub is_last : Store → ℕ → ℕ → Bool
is_last s a r = eqb r (last_of s.rows a)

-- Damage of the number that a removal of row r of archetype a moves: it is ≥ used, or its place isn't the last row
unfoldable pub moved_damaged : Store → ℕ → ℕ → Bool
moved_damaged s a r =
    not (is_last s a r)
    && (leb s.ids.head.used (last_number s a)
    || (not (eqb (archetype_of s (last_number s a)) a) || not (eqb (row_of s (last_number s a)) (last_of s.rows a))))

-- the moved number's place is the row that it fell into; on the last row nothing is corrected
abbrev pub corrected : Store → ℕ → ℕ → Ids
corrected s a r = cond (is_last s a r) s.ids (placed s.ids (last_number s a) (place_of a r))

-- row r of archetype a is removed, and the moved number's place is written
unfoldable pub vacated : Store → ℕ → ℕ → Store
vacated s a r = store_of s.decl (corrected s a r) (removed (block_in s.decl a) (sizes_of s.decl a) s.rows a r) s.words

-- number n in the first unused row of archetype a, and a run of bytes in column order in its components
abbrev pub seated : Store → ℕ → ℕ → List ℕ → Store
seated s a n run = with_rows s (seated_rows (block_in s.decl a) (sizes_of s.decl a) s.rows a n run)
