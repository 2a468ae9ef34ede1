-- What a removal does, over plain lists: no such row, the last row, another row.
-- Assumes nothing.
use Prim.Native.Nat.{ℕ, ◌+◌, ◌-◌, ◌≤◌, ◌<◌}
use mathlib.Core.Bool.{true, false}
use mathlib.Core.List.{List}
use mathlib.Core.Option.{none, some}
use mathlib.Core.Path.{◌≡◌, sym}
use borrow.Author.Tests.{lt-ltb, le-ltb, eqb-true}
use lib.Dec.{eqb}
use lib.ListN.{get_or, set}
use lib.Seq.{set-get_or}
use Rattle.cells.specs.Line.{line_of, carried}
use Rattle.cells.specs.declared.Line.{Line}
use Rattle.cells.proofs.Blocks.{carried_self}
use Rattle.row_step.specs.declared.Block.{Block}
use Rattle.row_step.specs.Tables.{tables_of, line_in, removed, moved_by, row_removed}

module _ (k : Block) (sizes numbers counts bytes : List ℕ) (a r count : ℕ) (used : count ≡ get_or counts a 0) where
  pub no_row : count ≤ r → (none, tables_of numbers counts bytes) ≡ row_removed k sizes (tables_of numbers counts bytes) a r
  unfolding row_removed
  no_row h = rw (← used, le-ltb r count h)

  module _ (h : r < count) where
    pub last_row : true ≡ eqb r (count - 1) → (none, tables_of numbers (set counts a (count - 1)) bytes) ≡ row_removed k sizes (tables_of numbers counts bytes) a r
    unfolding row_removed moved_by removed
    last_row e = rw (← used, lt-ltb r count h, ← e, ← eqb-true r (count - 1) (sym e), set-get_or numbers (k.first + r) 0, carried_self sizes bytes (line_of k.base k.rows r))

    pub other_row : (n : ℕ) (numbers' bytes' : List ℕ) → false ≡ eqb r (count - 1) → n ≡ get_or numbers (k.first + (count - 1)) 0 → numbers' ≡ set numbers (k.first + r) n
        → (from to : Line) → from ≡ line_in k (count - 1) → to ≡ line_in k r → bytes' ≡ carried bytes from to sizes
        → (some n, tables_of numbers' (set counts a (count - 1)) bytes') ≡ row_removed k sizes (tables_of numbers counts bytes) a r
    unfolding row_removed moved_by removed
    other_row n numbers' bytes' ne e f from to p q g = rw (← used, lt-ltb r count h, ← ne, f, g, e, p, q)
