-- What the first tests of a column call give it.
use Prim.{tt}
use Rattle.std.specs.Prelude.{ℕ, ◌<◌, ◌≤◌, ◌≡◌, length}
use Rattle.decl.specs.Decl.{Decl, archetypes, rows_of, first_row}
use Rattle.refusal.specs.Table.{granted, passing}
use Rattle.decl.specs.Rules.{decl_rules}
use Rattle.decl.specs.Places.{base_of}
use Rattle.decl.specs.Kept.{Declared}
use Rattle.row_step.specs.Tables.{Rows, count_of}

-- by `decl_rules`
pub record Kept (d : Decl) : Type 0 where
  pub passes : granted tt ≡ passing (decl_rules d)
  pub declared : Declared d

-- by `table_rules`
pub record Tabled (d : Decl) (w : Rows) : Type 0 where
  pub kept : Kept d
  pub numbers_long : length w.numbers ≡ first_row d (archetypes d)
  pub counts_long : length w.counts ≡ archetypes d
  pub bytes_long : length w.bytes ≡ base_of d (archetypes d)

-- by all of `entry_rules`
pub record Ready (d : Decl) (w : Rows) : Type 0 where
  pub tabled : Tabled d w
  pub counts_in : (a : ℕ) → count_of w a ≤ rows_of d a

-- a row that is there
pub record There (d : Decl) (w : Rows) (a r : ℕ) : Type 0 where
  pub ready : Ready d w
  pub archetype_in : a < archetypes d
  pub row_in : r < count_of w a
