-- What a row that may move, and its target, are.
use Rattle.std.specs.Prelude.{ℕ, ◌<◌}
use Rattle.decl.specs.Decl.{Decl, archetypes, rows_of}
use Rattle.row_step.specs.Tables.{Rows, count_of}
use Rattle.column_entry.specs.Kept.{Ready}

-- row r of archetype a, and archetype b with an unused row
pub record Moving (d : Decl) (w : Rows) (a r b : ℕ) : Type 0 where
  pub ready : Ready d w
  pub here : a < archetypes d
  pub there : b < archetypes d
  pub row_in : r < count_of w a
  pub row_unused : count_of w b < rows_of d b
