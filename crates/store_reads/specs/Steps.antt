-- What the private functions promise, beside the rules themselves.
use Prim.{Unit, tt}
use Rattle.std.specs.Prelude.{ℕ, ◌<◌, ◌≡◌, cond, not, ◌||◌, List, [], ◌∷◌, eqb, get_or, Option, Some, None}
use Rattle.std.proofs.Math.Option as math
use Rattle.refusal.specs.Table.{◌when◌, Answer, granted, refused, ◌or_else◌, ◌otherwise◌}
use Rattle.handle.specs.Bits.{MAX, place_of}
use Rattle.handle.specs.declared.Place.{Place}
use Rattle.id_tables.specs.Ids.{Ids, index_at, place_at, live}
use Rattle.id_tables.specs.Lookup.{reserved_new}
use Rattle.decl.specs.Decl.{Decl, archetypes, rows_of, types_of}
use Rattle.decl.specs.Places.{span_of}
use Rattle.decl.specs.Lookup.{column_of}
use Rattle.decl.specs.declared.Span.{Span}
use Rattle.cells.specs.Cell.{written}
use Rattle.store_tables.specs.Seen.{own_seen}
use Rattle.store_reads.specs.declared.component.Cell.{Cell}
use Rattle.store_reads.specs.Component.{column_cell}

-- a place and its archetype's part of the tables, where the row there holds the number; 1 where it holds another
abbrev pub in_place : Place → math.Option Span → Answer (Option (Place × Span))
in_place place (math.some span) = granted (Some (place, span))
in_place place math.none = refused 1

-- what the tables say of a handle: 2, then a live one's row, or 1; a reserved new one has no row yet
unfoldable pub place_seen : Decl → Ids → List ℕ → List ℕ → ℕ → ℕ → Answer (Option (Place × Span))
place_seen d i numbers counts g n =
    2 when not (live i g n || reserved_new i.head g n)
    ∷ []
    or_else cond (live i g n) (in_place (place_at i n) (own_seen d numbers counts (get_or i.archetypes n 0) (index_at i n) n)) (granted None)

-- a row that is declared, in an archetype with this part of the tables
pub record RowIn (d : Decl) (place : Place) (span : Span) : Type 0 where
  pub span_is : span ≡ span_of d place.archetype
  pub archetype_in : place.archetype < archetypes d
  pub row_in : place.index.0 < rows_of d place.archetype

unfoldable pub PlacedIn : Decl → Option (Place × Span) → Type 0
PlacedIn d (Some p) = RowIn d p.0 p.1
PlacedIn d None = Unit {0}

-- the component of a type there
unfoldable pub component_for : Decl → ℕ → Option (Place × Span) → Answer Cell
component_for d t (Some p) = column_cell d p.0.archetype p.0.index.0 (column_of (types_of d p.0.archetype) t)
component_for d t None = refused 15

-- the place itself
abbrev pub place_for : Option (Place × Span) → Place
place_for (Some p) = p.0
place_for None = place_of 0 MAX

-- 8 for the word of a cell, else its bytes are written
unfoldable pub cell_stored : List ℕ → List ℕ → List ℕ → Cell → Answer (Unit {0} × List ℕ)
cell_stored words bytes value c =
    8 when not (eqb (get_or words c.word 0) 0) ∷ [] otherwise (tt, written bytes c.start value)
