-- Write: bytes of exactly the type's size, into a component.
use Prim.{Unit, tt}
use Rattle.std.specs.Prelude.{ℕ, not, List, [], ◌∷◌, eqb, length, get_or}
use Rattle.refusal.specs.Table.{◌when◌, Answer, ◌otherwise◌}
use Rattle.handle.specs.OnBits.{on_bits}
use Rattle.cells.specs.Cell.{put}
use Rattle.row_step.specs.Tables.{tables_of}
use Rattle.column_entry.specs.Entry.{wrong_size}
use Rattle.store_tables.specs.Store.{Store, with_rows, entry}
use Rattle.store_reads.specs.declared.component.Cell.{Cell}
use Rattle.store_reads.specs.Component.{◌and_then◌, component_at}

-- 8: its column's word is not 0
unfoldable pub cell_written : Store → List ℕ → Cell → Answer (Unit {0} × Store)
cell_written s value c =
    8 when not (eqb (get_or s.words c.word 0) 0)
    ∷ []
    otherwise (tt, with_rows s (tables_of s.rows.numbers s.rows.counts (put s.rows.bytes c.start value)))

unfoldable pub write_at : Store → ℕ → List ℕ → ℕ → ℕ → Answer (Unit {0} × Store)
write_at s t value generation n = component_at s t generation n and_then cell_written s value

-- 13: a value of another length than its type's, where that type is declared
unfoldable pub writing : Store → ℕ → ℕ → List ℕ → Answer (Unit {0} × Store)
writing s bits t value = on_bits (entry s (wrong_size s.decl.types s.decl.sizes t (length value))) bits (write_at s t value)
