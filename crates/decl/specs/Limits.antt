-- How large a declaration may be.
use Rattle.std.specs.Prelude.{ℕ}

-- archetypes
abbrev pub max_archetypes : ℕ
max_archetypes = 16

-- columns an archetype
abbrev pub max_columns : ℕ
max_columns = 16

-- bytes a component
abbrev pub max_size : ℕ
max_size = 64

-- rows an archetype
abbrev pub max_rows : ℕ
max_rows = 4096
