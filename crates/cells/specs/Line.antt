-- A row of columns that follow each other, and one row's bytes moved to another.
use Rattle.std.specs.Prelude.{ℕ, ◌+◌, ◌*◌, min, List, [], ◌∷◌, ◌++◌, get_or, take}
use Rattle.cells.specs.Cell.{cell, written, part_of, copied}
use Rattle.cells.specs.declared.Line.{Line}

abbrev pub line_of : ℕ → ℕ → ℕ → Line
line_of start rows row = record { start = start; rows = rows; row = row }

-- its cell in the first column, of size n
abbrev pub cell_of : Line → ℕ → ℕ
cell_of l n = l.start + l.row * n

-- the same row from the next column on
abbrev pub next_of : Line → ℕ → Line
next_of l n = line_of (l.start + l.rows * n) l.rows l.row

-- the same row past columns of these sizes
unfoldable pub past_of : Line → List ℕ → Line
past_of l [] = l
past_of l (n ∷ ns) = past_of (next_of l n) ns

-- its cell in column j
unfoldable pub cell_at : Line → List ℕ → ℕ → ℕ
cell_at l ns j = cell_of (past_of l (take j ns)) (get_or ns j 0)

-- the bytes of a row of columns of these sizes
unfoldable pub width : List ℕ → ℕ
width [] = 0
width (n ∷ ns) = n + width ns

-- a run of bytes in column order, as a row of columns of one row
abbrev pub run_line : Line
run_line = line_of 0 1 0

-- its bytes in column order
unfoldable pub row_bytes : List ℕ → Line → List ℕ → List ℕ
row_bytes b l [] = []
row_bytes b l (n ∷ ns) = cell b (cell_of l n) n ++ row_bytes b (next_of l n) ns

-- one row's cells copied over another's, column by column
unfoldable pub carried : List ℕ → Line → Line → List ℕ → List ℕ
carried b from to [] = b
carried b from to (n ∷ ns) = carried (copied b (cell_of from n) (cell_of to n) n) (next_of from n) (next_of to n) ns

-- the same from one buffer, s, to another
unfoldable pub transferred : List ℕ → Line → List ℕ → Line → List ℕ → List ℕ
transferred s from b to [] = b
transferred s from b to (n ∷ ns) = transferred s (next_of from n) (written b (cell_of to n) (part_of s (cell_of from n) n)) (next_of to n) ns

-- the last place that 64 bits have: no buffer has it
abbrev pub last_place : ℕ
last_place = 18446744073709551615

-- a place as 64 bits tell it
unfoldable pub told : ℕ → ℕ
told n = min n last_place

abbrev pub line_told : Line → Line
line_told l = line_of (told l.start) l.rows l.row
