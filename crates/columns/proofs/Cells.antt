-- What a row holds in a column: that cell of the bytes.
-- Assumes nothing.
use Prim.Native.Nat.{ℕ}
use mathlib.Core.Path.{◌≡◌, refl}
use Rattle.decl.specs.Decl.{Decl, size_of}
use Rattle.decl.specs.Places.{cell_start}
use Rattle.cells.specs.Cell.{cell}
use Rattle.row_step.specs.Tables.{Rows}
use Rattle.columns.specs.Calls.{held_at}

pub held_is : (d : Decl) (w : Rows) (a r j : ℕ) → held_at d w a r j ≡ cell w.bytes (cell_start d a j r) (size_of d a j)
unfolding held_at
held_is d w a r j = refl
