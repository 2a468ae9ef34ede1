-- A row that moves to another archetype with the number in it: what is tested, and what is left.
use Prim.{Unit, tt}
use Rattle.std.specs.Prelude.{ℕ, List, [], ◌∷◌, leb, take}
use Rattle.std.proofs.Math.Option.{Option, none, some}
use Rattle.refusal.specs.Table.{Rule, ◌when◌, Answer, refused, ◌otherwise◌}
use Rattle.handle.specs.Bits.{place_of}
use Rattle.borrow_word.specs.Slice.{any_held}
use Rattle.id_tables.specs.Ids.{placed}
use Rattle.decl.specs.Decl.{Decl, rows_of, types_of, sizes_of, size_of}
use Rattle.cells.specs.Line.{width, row_bytes}
use Rattle.row_step.specs.Tables.{Rows, count_of, line_in}
use Rattle.column_entry.specs.Entry.{block_in}
use Rattle.store_tables.specs.Store.{Store, with_ids}
use Rattle.store_tables.specs.Rows.{archetype_of, row_of, moved_damaged, seated, vacated}
use Rattle.store_moves.specs.Lists.{put_in, taken_out}
use Rattle.store_moves.specs.Target.{types_before}

-- of number n's row that is to move to archetype b, past 14 or 15
unfoldable pub move_rules : Store → ℕ → ℕ → List Rule
move_rules s n b =
    8 when any_held s.words
    ∷ 4 when leb (rows_of s.decl b) (count_of s.rows b)
    ∷ 1 when moved_damaged s (archetype_of s n) (row_of s n)
    ∷ []

-- the bytes of row r of archetype a, in column order
unfoldable pub row_run : Decl → Rows → ℕ → ℕ → List ℕ
row_run d w a r = row_bytes w.bytes (line_in (block_in d a) r) (sizes_of d a)

-- where column j begins in them
unfoldable pub run_start : Decl → ℕ → ℕ → ℕ
run_start d a j = width (take j (sizes_of d a))

-- the same bytes with a value of type t added, and without column j: the other components keep their bytes
unfoldable pub run_with : Decl → Rows → ℕ → ℕ → ℕ → List ℕ → List ℕ
run_with d w a r t value = put_in (run_start d a (types_before t (types_of d a))) value (row_run d w a r)

unfoldable pub run_without : Decl → Rows → ℕ → ℕ → ℕ → List ℕ
run_without d w a r j = taken_out (run_start d a j) (size_of d a j) (row_run d w a r)

-- number n in the first unused row of archetype b with these bytes, and its old row gone
unfoldable pub row_moved : Store → ℕ → ℕ → List ℕ → Store
row_moved s n b run = vacated (seated s b n run) (archetype_of s n) (row_of s n)

-- and that row is its place
unfoldable pub moved_to : Store → ℕ → ℕ → List ℕ → Store
moved_to s n b run = with_ids (row_moved s n b run) (placed (row_moved s n b run).ids n (place_of b (count_of s.rows b)))

-- 14: no target; else the row moves there
unfoldable pub moved_into : Store → ℕ → Option ℕ → List ℕ → Answer (Unit {0} × Store)
moved_into s n none run = refused 14
moved_into s n (some b) run = move_rules s n b otherwise (tt, moved_to s n b run)
