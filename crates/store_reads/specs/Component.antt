-- The component of a handle: 2, 1 for a live handle's own place, 15; else its word and its bytes.
use Rattle.std.specs.Prelude.{ℕ, ◌+◌, not, ◌&&◌, ◌||◌, List, [], ◌∷◌, ◌++◌, Option, Some, None}
use Rattle.refusal.specs.Table.{Rule, ◌when◌, Answer, granted, refused, ◌or_else◌}
use Rattle.id_tables.specs.Ids.{live}
use Rattle.id_tables.specs.Lookup.{reserved_new}
use Rattle.decl.specs.Decl.{Decl, first_column, types_of, size_of}
use Rattle.decl.specs.Places.{cell_start}
use Rattle.decl.specs.Lookup.{column_of}
use Rattle.store_tables.specs.Store.{Store}
use Rattle.store_tables.specs.Rows.{archetype_of, row_of, owns}
use Rattle.store_reads.specs.declared.component.Cell.{Cell}

infixl 21 ◌and_then◌
-- what follows a granted value; a refusal stays
abbrev pub ◌and_then◌ : {A B : Type 0} → Answer A → (A → Answer B) → Answer B
granted x and_then rest = rest x
refused n and_then rest = refused n

-- The entity is there: 2, then 1 for a live handle's own place.
unfoldable pub place_rules : Store → ℕ → ℕ → List Rule
place_rules s generation n =
    2 when not (live s.ids generation n || reserved_new s.ids.head generation n)
    ∷ 1 when (live s.ids generation n && not (owns s n))
    ∷ []

-- row r of column j of archetype a: its word, where its bytes start, how many they are
abbrev pub cell_in : Decl → ℕ → ℕ → ℕ → Cell
cell_in d a r j = record { word = first_column d a + j; start = cell_start d a j r; size = size_of d a j }

abbrev pub column_cell : Decl → ℕ → ℕ → Option ℕ → Answer Cell
column_cell d a r (Some j) = granted (cell_in d a r j)
column_cell d a r None = refused 15

-- 15: a reserved handle, or a type that is not in the entity's archetype
unfoldable pub component_at : Store → ℕ → ℕ → ℕ → Answer Cell
component_at s t generation n =
    place_rules s generation n
    ++ 15 when not (live s.ids generation n) ∷ []
    or_else column_cell s.decl (archetype_of s n) (row_of s n) (column_of (types_of s.decl (archetype_of s n)) t)
