-- Clear: used, pending, cursor, live and all row counts become 0; nothing else changes.
use Prim.{Unit, tt}
use Rattle.std.specs.Prelude.{false, [], ◌∷◌, ◌++◌, length, replicate}
use Rattle.refusal.specs.Table.{◌when◌, Answer, ◌otherwise◌}
use Rattle.borrow_word.specs.Slice.{any_held}
use Rattle.id_tables.specs.Lookup.{cleared}
use Rattle.row_step.specs.Tables.{tables_of}
use Rattle.store_tables.specs.Store.{Store, store_of, entry}

abbrev pub emptied : Store → Store
emptied s =
    store_of s.decl (cleared s.ids) (tables_of s.rows.numbers (replicate (length s.rows.counts) 0) s.rows.bytes) s.words

unfoldable pub clearing : Store → Answer (Unit {0} × Store)
clearing s = entry s false ++ 8 when any_held s.words ∷ [] otherwise (tt, emptied s)
