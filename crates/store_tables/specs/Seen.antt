-- What the tests of places and entities see on any tables; on tables that pass the first tests they are the rules of Rows and Entities.
use Rattle.std.specs.Prelude.{ℕ, ◌+◌, ◌-◌, Bool, cond, not, ◌&&◌, ◌||◌, List, [], ◌∷◌, ltb, leb, eqb, get_or, Some, None}
use Rattle.std.specs.Prelude as prelude
use Rattle.std.proofs.Math.Option.{Option, none, some}
use Rattle.refusal.specs.Table.{◌when◌, Answer, granted, refused, ◌or_else◌}
use Rattle.handle.specs.declared.Place.{Place}
use Rattle.id_tables.specs.Head.{flushed}
use Rattle.id_tables.specs.Ids.{Ids, live, index_at, place_at}
use Rattle.decl.specs.Decl.{Decl, archetypes}
use Rattle.decl.specs.declared.Span.{Span}
use Rattle.column_entry.specs.Entry.{span_in}

-- row r of archetype a holds number n: that archetype's part of the tables
unfoldable pub own_seen : Decl → List ℕ → List ℕ → ℕ → ℕ → ℕ → Option Span
own_seen d numbers counts a r n =
    cond (ltb a (archetypes d) && (ltb r (get_or counts a 0) && eqb (get_or numbers ((span_in d a).row + r) 0) n)) (some (span_in d a)) none

abbrev pub own_of : prelude.Option Span → Option Span
own_of (Some span) = some span
own_of None = none

-- damage of the number that a removal of row r moves, where the archetype's rows begin at `first`
unfoldable pub moved_seen : ℕ → ℕ → List ℕ → List ℕ → List ℕ → List ℕ → ℕ → ℕ → Bool
moved_seen first used archetypes indices numbers counts a r =
    not (eqb r (get_or counts a 0 - 1))
    && (leb used (get_or numbers (first + (get_or counts a 0 - 1)) 0)
    || (not (eqb (get_or archetypes (get_or numbers (first + (get_or counts a 0 - 1)) 0) 0) a)
    || not (eqb (get_or indices (get_or numbers (first + (get_or counts a 0 - 1)) 0) 0) (get_or counts a 0 - 1))))

-- the part of the tables that an entity's archetype has, and its place; 1 where that is not its own
abbrev pub own_at : Place → Option Span → Answer (Span × Place)
own_at place none = refused 1
own_at place (some span) = granted (span, place)

unfoldable pub entity_seen : Decl → Ids → List ℕ → List ℕ → ℕ → ℕ → Answer (Span × Place)
entity_seen d i numbers counts generation n =
    3 when not (flushed i.head)
    ∷ 2 when not (live i generation n)
    ∷ []
    or_else own_at (place_at i n) (own_seen d numbers counts (get_or i.archetypes n 0) (index_at i n) n)
