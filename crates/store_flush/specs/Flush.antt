-- Flush: the reserved numbers, new ones first, get successive rows of archetype 0, from its row count on.
use Prim.{Unit, tt}
use Rattle.std.specs.Prelude.{ℕ, ◌+◌, false, List, [], ◌∷◌, ◌++◌, ltb, length, set}
use Rattle.refusal.specs.Table.{Rule, ◌when◌, Answer, granted, ◌or_else◌}
use Rattle.borrow_word.specs.Slice.{any_held}
use Rattle.id_tables.specs.Ids.{Ids, any_damaged}
use Rattle.id_tables.specs.Lookup.{reserved_old}
use Rattle.id_tables.specs.Runs.{up_from}
use Rattle.id_batches.specs.Seating.{set_each}
use Rattle.id_batches.specs.Flush.{reserved_fresh, reserved_count, flushed_ids}
use Rattle.decl.specs.Decl.{first_row, rows_of}
use Rattle.row_step.specs.Tables.{Rows, tables_of, count_of}
use Rattle.store_tables.specs.Store.{Store, store_of, entry}

-- new numbers first, ascending; then pending[max(cursor, 0)..] in order
abbrev pub reserved : Ids → List ℕ
reserved s = reserved_fresh s ++ reserved_old s

-- past 12, 13 and the head's 1. 4: too few rows
unfoldable pub flush_rules : Store → List Rule
flush_rules s =
    8 when any_held s.words
    ∷ 4 when ltb (rows_of s.decl 0) (count_of s.rows 0 + reserved_count s.ids)
    ∷ 1 when any_damaged s.ids (reserved_old s.ids)
    ∷ []

-- a table with these numbers in successive places from one on
abbrev pub listed : List ℕ → ℕ → List ℕ → List ℕ
listed table place ns = set_each table (up_from place (length ns)) ns

-- they stand in the unused rows of archetype 0, which has that many more; it has no columns, so no byte changes
unfoldable pub flushed_rows : Store → Rows
flushed_rows s =
    tables_of (listed s.rows.numbers (first_row s.decl 0 + count_of s.rows 0) (reserved s.ids))
    (set s.rows.counts 0 (count_of s.rows 0 + reserved_count s.ids))
    s.rows.bytes

-- and each has its row as its place
abbrev pub with_reserved : Store → Store
with_reserved s = store_of s.decl (flushed_ids s.ids 0 (count_of s.rows 0)) (flushed_rows s) s.words

-- past the first tests
unfoldable pub reserved_seated : Store → Answer (Unit {0} × Store)
reserved_seated s = flush_rules s or_else granted (tt, with_reserved s)

unfoldable pub flushing : Store → Answer (Unit {0} × Store)
flushing s = entry s false or_else reserved_seated s
