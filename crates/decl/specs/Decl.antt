-- The declaration: four lent tables, in archetype order, and the part of them that is an archetype's.
use Rattle.std.specs.Prelude.{ℕ, List, length, get_or}
use Rattle.decl.specs.Lists.{first_of, part_of}
use Rattle.decl.specs.declared.Declaration.{Declaration}

-- rows and widths, one an archetype; types and sizes, one a column
pub record Decl : Type 0 where
  pub rows : List ℕ
  pub widths : List ℕ
  pub types : List ℕ
  pub sizes : List ℕ

abbrev pub decl_of : List ℕ → List ℕ → List ℕ → List ℕ → Decl
decl_of rows widths types sizes = record { rows = rows; widths = widths; types = types; sizes = sizes }

-- that of the tables lent
abbrev pub decl_in : Declaration → Decl
decl_in t = decl_of t.rows.now t.widths.now t.types.now t.sizes.now

-- how many archetypes
abbrev pub archetypes : Decl → ℕ
archetypes d = length d.rows

-- rows and columns of archetype a
abbrev pub rows_of : Decl → ℕ → ℕ
rows_of d a = get_or d.rows a 0

abbrev pub width_of : Decl → ℕ → ℕ
width_of d a = get_or d.widths a 0

-- rows and columns of the archetypes before a; at the number of archetypes, of all
unfoldable pub first_row : Decl → ℕ → ℕ
first_row d a = first_of d.rows a

unfoldable pub first_column : Decl → ℕ → ℕ
first_column d a = first_of d.widths a

abbrev pub columns : Decl → ℕ
columns d = first_column d (archetypes d)

-- types and sizes of the columns of archetype a
unfoldable pub types_of : Decl → ℕ → List ℕ
types_of d a = part_of d.widths d.types a

unfoldable pub sizes_of : Decl → ℕ → List ℕ
sizes_of d a = part_of d.widths d.sizes a

-- type and size of column j of archetype a
abbrev pub type_of : Decl → ℕ → ℕ → ℕ
type_of d a j = get_or (types_of d a) j 0

abbrev pub size_of : Decl → ℕ → ℕ → ℕ
size_of d a j = get_or (sizes_of d a) j 0
