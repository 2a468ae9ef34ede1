-- What a private step of put and get promises: the cell of a type in one row, by the types and sizes of its columns. It takes any of them.
use Rattle.std.specs.Prelude.{ℕ, List, [], ◌∷◌, leb, length, get_or, Option, Some, None}
use Rattle.refusal.specs.Table.{Answer, refused, ◌when◌, ◌otherwise◌}
use Rattle.decl.specs.Lookup.{searched}
use Rattle.cells.specs.Line.{cell_at, told}
use Rattle.cells.specs.declared.Line.{Line}

-- 15 where there is no such column, else where the cell begins, as 64 bits tell it, and its size
abbrev pub cell_at_column : List ℕ → Line → Option ℕ → Answer (ℕ × ℕ)
cell_at_column sizes l (Some j) = 15 when leb (length sizes) j ∷ [] otherwise (told (cell_at l sizes j), get_or sizes j 0)
cell_at_column sizes l None = refused 15

-- in the column that a binary search finds; where declared, that is `cell_for` (proofs, Steps)
unfoldable pub cell_in : List ℕ → List ℕ → Line → ℕ → Answer (ℕ × ℕ)
cell_in types sizes l t = cell_at_column sizes l (searched types t)
