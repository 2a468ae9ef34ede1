-- What a declaration that keeps the rules gives the calls that use it.
use Rattle.std.specs.Prelude.{ℕ, ◌<◌, ◌≤◌, true, ◌≡◌, length}
use Rattle.decl.specs.Limits.{max_archetypes, max_columns, max_size, max_rows}
use Rattle.decl.specs.Lists.{rising}
use Rattle.decl.specs.Decl.{Decl, archetypes, rows_of, width_of, columns, types_of, type_of, size_of}

-- by `shape_rules`
pub record Shaped (d : Decl) : Type 0 where
  pub some : 0 < archetypes d
  pub few : archetypes d ≤ max_archetypes
  pub widths_long : length d.widths ≡ archetypes d
  pub types_long : length d.types ≡ columns d
  pub sizes_long : length d.sizes ≡ columns d
  pub bare : width_of d 0 ≡ 0
  pub widths_in : (a : ℕ) → width_of d a ≤ max_columns
  pub rows_in : (a : ℕ) → rows_of d a ≤ max_rows

-- by all of `decl_rules`
pub record Declared (d : Decl) : Type 0 where
  pub shaped : Shaped d
  pub sizes_in : (a j : ℕ) → size_of d a j ≤ max_size
  pub rises : (a : ℕ) → rising (types_of d a) ≡ true
  pub differ : (a b : ℕ) → a < archetypes d → b < archetypes d → types_of d a ≡ types_of d b → a ≡ b
  pub one_size : (a b j k : ℕ) → a < archetypes d → b < archetypes d → j < width_of d a → k < width_of d b → type_of d a j ≡ type_of d b k → size_of d a j ≡ size_of d b k
