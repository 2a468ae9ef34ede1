-- The run of bytes that a call is given for all components of a new row, in column order.
use Rattle.std.specs.Prelude.{ℕ, Bool, not, ◌&&◌, List, ltb, eqb, length}
use Rattle.decl.specs.Decl.{Decl, archetypes}
use Rattle.decl.specs.Places.{row_width}

-- 13 for the components' bytes: the archetype is declared, and the run is not of its row's width
unfoldable pub run_wrong : Decl → ℕ → List ℕ → Bool
run_wrong d a run = ltb a (archetypes d) && not (eqb (length run) (row_width d a))
