-- The column calls: what each refuses, and what it answers and leaves where it does not.
use Prim.{Unit, tt}
use Rattle.std.specs.Prelude as prelude
use Rattle.std.specs.Prelude.{ℕ, not, ◌&&◌, List, [], ◌∷◌, ◌++◌, leb, ltb, eqb, length, get_or, Result, Some, None}
use Rattle.std.proofs.Math.Option.{Option}
use Rattle.handle.specs.declared.Number.{Number}
use Rattle.handle.specs.declared.Row.{Row}
use Rattle.refusal.specs.declared.Refusal.{Refusal}
use Rattle.refusal.specs.Table.{Rule, ◌when◌, Answer, granted, refused, ◌or_else◌, ◌otherwise◌, answer_by}
use Rattle.decl.specs.Decl.{Decl, archetypes, first_row, types_of, sizes_of, size_of}
use Rattle.decl.specs.Places.{row_width, cell_start}
use Rattle.decl.specs.Lookup.{column_of}
use Rattle.cells.specs.Cell.{cell, written}
use Rattle.cells.specs.Line.{row_bytes}
use Rattle.row_step.specs.Tables.{Rows, tables_of, count_of, number_in, line_in, appended, removed, moved_by, moved_of}
use Rattle.column_entry.specs.Entry.{table_rules, count_rules, entry_rules, row_rules, wrong_size, block_in}

-- what a row of archetype a holds in column j, and its number
unfoldable pub held_at : Decl → Rows → ℕ → ℕ → ℕ → List ℕ
held_at d w a r j = cell w.bytes (cell_start d a j r) (size_of d a j)

abbrev pub number_at : Decl → Rows → ℕ → ℕ → ℕ
number_at d w a r = number_in (block_in d a) w r

-- the tables with a number in its first unused row, with a row removed, with bytes in the cell of a row
abbrev pub appended_to : Decl → Rows → ℕ → ℕ → Rows
appended_to d w a n = appended (block_in d a) w a n

abbrev pub removed_from : Decl → Rows → ℕ → ℕ → Rows
removed_from d w a r = removed (block_in d a) (sizes_of d a) w a r

abbrev pub written_to : Decl → Rows → ℕ → ℕ → ℕ → List ℕ → Rows
written_to d w a r j vs = tables_of w.numbers w.counts (written w.bytes (cell_start d a j r) vs)

-- The document's number and values of what two of the calls answer: a row; the moved number or none.
abbrev pub allocated_of : Result Row Refusal → Answer ℕ
allocated_of = answer_by (λ r. r.0)

abbrev pub removed_of : Result (prelude.Option Number) Refusal → Answer (Option ℕ)
removed_of = answer_by moved_of

-- Allocate: the number goes into the first unused row, whose position is answered.
unfoldable pub room_rules : List ℕ → List ℕ → ℕ → List Rule
room_rules rows counts a = 6 when leb (length rows) a ∷ 4 when leb (get_or rows a 0) (get_or counts a 0) ∷ []

unfoldable pub allocate_rules : Decl → Rows → ℕ → List Rule
allocate_rules d w a = entry_rules d w ++ room_rules d.rows w.counts a

unfoldable pub allocated_in : Decl → Rows → ℕ → ℕ → Answer (ℕ × Rows)
allocated_in d w a n = allocate_rules d w a otherwise (count_of w a, appended_to d w a n)

-- a row that is there
unfoldable pub held_rules : Decl → Rows → ℕ → ℕ → List Rule
held_rules d w a r = entry_rules d w ++ row_rules d.rows w.counts a r

-- Remove row: what it answers, and what it leaves.
abbrev pub removal : Decl → Rows → ℕ → ℕ → Option ℕ × Rows
removal d w a r = (moved_by (block_in d a) w a r, removed_from d w a r)

unfoldable pub removed_in : Decl → Rows → ℕ → ℕ → Answer (Option ℕ × Rows)
removed_in d w a r = held_rules d w a r otherwise removal d w a r

-- Move out: first hands over the old bytes, in column order, into an output of exactly the row's width.
unfoldable pub width_rules : Decl → ℕ → ℕ → List Rule
width_rules d a len = 13 when (ltb a (archetypes d) && not (eqb len (row_width d a))) ∷ []

unfoldable pub move_rules : Decl → Rows → ℕ → ℕ → ℕ → List Rule
move_rules d w len a r =
    table_rules d w ++ width_rules d a len ++ count_rules d.rows w.counts ++ row_rules d.rows w.counts a r

unfoldable pub moved_out : Decl → Rows → List ℕ → ℕ → ℕ → Answer (Option ℕ × (Rows × List ℕ))
moved_out d w out a r =
    move_rules d w (length out) a r otherwise
    ((removal d w a r).0, ((removal d w a r).1, row_bytes w.bytes (line_in (block_in d a) r) (sizes_of d a)))

-- Put: component bytes of exactly the type's size. That is not tested of an archetype or a type that is not declared.
unfoldable pub size_rules : List ℕ → List ℕ → List ℕ → ℕ → ℕ → ℕ → List Rule
size_rules rows types sizes a t len = 13 when (ltb a (length rows) && wrong_size types sizes t len) ∷ []

unfoldable pub put_rules : Decl → Rows → ℕ → ℕ → ℕ → ℕ → List Rule
put_rules d w a r t len =
    table_rules d w ++ size_rules d.rows d.types d.sizes a t len ++ count_rules d.rows w.counts ++ row_rules d.rows w.counts a r

-- the bytes with them in the cell of a column, or 15
abbrev pub put_at : Decl → Rows → ℕ → ℕ → List ℕ → prelude.Option ℕ → Answer (Unit {0} × Rows)
put_at d w a r vs (Some j) = granted (tt, written_to d w a r j vs)
put_at d w a r vs None = refused 15

unfoldable pub put_in : Decl → Rows → ℕ → ℕ → ℕ → List ℕ → Answer (Unit {0} × Rows)
put_in d w a r t vs = put_rules d w a r t (length vs) or_else put_at d w a r vs (column_of (types_of d a) t)

-- Get: where the component's bytes are.
abbrev pub cell_for : Decl → ℕ → ℕ → prelude.Option ℕ → Answer (ℕ × ℕ)
cell_for d a r (Some j) = granted (cell_start d a j r, size_of d a j)
cell_for d a r None = refused 15

unfoldable pub got_in : Decl → Rows → ℕ → ℕ → ℕ → Answer (ℕ × ℕ)
got_in d w a r t = held_rules d w a r or_else cell_for d a r (column_of (types_of d a) t)

-- Ids: where the archetype's row numbers are.
unfoldable pub ids_rules : Decl → Rows → ℕ → List Rule
ids_rules d w a = entry_rules d w ++ (6 when leb (archetypes d) a ∷ [])

unfoldable pub ids_in : Decl → Rows → ℕ → Answer (ℕ × ℕ)
ids_in d w a = ids_rules d w a otherwise (first_row d a, count_of w a)

-- the part of a table that an answer names: empty on a refusal
abbrev pub part_for : Answer (ℕ × ℕ) → List ℕ → List ℕ
part_for (granted p) l = cell l p.0 p.1
part_for (refused n) l = []
