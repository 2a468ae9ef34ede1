-- The word of a column and the part of the bytes that a row has there, for the lines that say when a call refuses.
use Rattle.std.specs.Prelude.{ℕ, ◌+◌, List, get_or, Option, Some, None}
use Rattle.decl.specs.Decl.{Decl, first_column, size_of}
use Rattle.decl.specs.Places.{cell_start}

-- the place of the column's word, and the word; 0 where there is no column
abbrev pub place_in : Decl → ℕ → Option ℕ → ℕ
place_in d a (Some j) = first_column d a + j
place_in d a None = 0

abbrev pub word_in : Decl → List ℕ → ℕ → Option ℕ → ℕ
word_in d words a (Some j) = get_or words (first_column d a + j) 0
word_in d words a None = 0

-- where the row's bytes are in the column, and how many
abbrev pub part_in : Decl → ℕ → ℕ → Option ℕ → ℕ × ℕ
part_in d a r (Some j) = (cell_start d a j r, size_of d a j)
part_in d a r None = (0, 0)
