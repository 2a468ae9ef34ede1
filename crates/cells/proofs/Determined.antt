-- The contracts determine the result and the bytes that are left: no second result fits. One instance a function, under its name.
-- Assumes nothing.
use Prim.Native.Nat.{ℕ}
use mathlib.Core.List.{List}
use mathlib.Core.Path.{◌≡◌, sym, ◌∙◌}
use Rattle.cells.specs.Cell.{written, part_of, copied}
use Rattle.cells.specs.Line.{cell_of, next_of, past_of, carried, transferred, told, line_told}
use Rattle.cells.specs.declared.Line.{Line}

-- one value is the rule's
abbrev One : {A : Type 0} → A → Type 0
One {A} rule = (r s : A) → r ≡ rule → s ≡ rule → r ≡ s

one : {A : Type 0} (rule : A) → One rule
one rule r s d e = d ∙ sym e

pub write : (bytes : List ℕ) (at : ℕ) (value : List ℕ) → One (written bytes at value)
write bytes at value = one (written bytes at value)

pub part : (bytes : List ℕ) (at size : ℕ) → One (part_of bytes at size)
part bytes at size = one (part_of bytes at size)

pub copy : (bytes : List ℕ) (from to size : ℕ) → One (copied bytes from to size)
copy bytes from to size = one (copied bytes from to size)

pub cell : (line : Line) (size : ℕ) → One (told (cell_of line size))
cell line size = one (told (cell_of line size))

pub next : (line : Line) (size : ℕ) → One (line_told (next_of line size))
next line size = one (line_told (next_of line size))

pub past : (line : Line) (sizes : List ℕ) → One (line_told (past_of line sizes))
past line sizes = one (line_told (past_of line sizes))

pub carry : (bytes : List ℕ) (from to : Line) (sizes : List ℕ) → One (carried bytes from to sizes)
carry bytes from to sizes = one (carried bytes from to sizes)

pub transfer : (bytes : List ℕ) (from : Line) (out : List ℕ) (to : Line) (sizes : List ℕ) → One (transferred bytes from out to sizes)
transfer bytes from out to sizes = one (transferred bytes from out to sizes)
