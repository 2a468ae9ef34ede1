-- The ways through the tests of places and of an entity, over plain values.
-- Assumes nothing.
use Prim.Native.Nat.{ℕ, ◌+◌, ◌-◌, ◌<◌, ◌≤◌}
use mathlib.Core.Path.{◌≡◌, sym}
use mathlib.Core.Bool.{true, false, not}
use mathlib.Core.List.{List}
use mathlib.Core.Option.{none, some}
use Rattle.std.specs.Prelude.{Option, Some, None}
use lib.Dec.{eqb}
use lib.ListN.{get_or}
use borrow.Author.Tests.{lt-ltb, le-ltb, le-leb, lt-leb, eq-eqb, ne_eqb, not-true, not-false}
use Rattle.refusal.specs.Table.{granted, refused, ◌or_else◌}
use Rattle.handle.specs.declared.Place.{Place}
use Rattle.id_tables.specs.Head.{flushed}
use Rattle.id_tables.specs.Ids.{Ids, live, place_at}
use Rattle.decl.specs.Decl.{Decl, archetypes}
use Rattle.decl.specs.declared.Span.{Span}
use Rattle.column_entry.specs.Entry.{span_in}
use Rattle.store_tables.specs.Seen.{own_seen, own_of, moved_seen, entity_seen}

module _ (d : Decl) (numbers counts : List ℕ) (a r n : ℕ) where
  pub no_archetype : archetypes d ≤ a → none ≡ own_seen d numbers counts a r n
  unfolding own_seen
  no_archetype h = rw (le-ltb _ _ h)

  module _ (h : a < archetypes d) (count : ℕ) (c : count ≡ get_or counts a 0) where
    pub no_row : count ≤ r → none ≡ own_seen d numbers counts a r n
    unfolding own_seen
    no_row l = rw (lt-ltb _ _ h, ← c, le-ltb _ _ l)

    module _ (l : r < count) (span : Span) (p : span ≡ span_in d a) (held : ℕ) (q : held ≡ get_or numbers (span.row + r) 0) where
      pub another : true ≡ not (eqb held n) → none ≡ own_seen d numbers counts a r n
      unfolding own_seen
      another e = rw (lt-ltb _ _ h, ← c, lt-ltb _ _ l, ← p, ← q, not-true _ (sym e))

      pub holds : false ≡ not (eqb held n) → some span ≡ own_seen d numbers counts a r n
      unfolding own_seen
      holds e = rw (lt-ltb _ _ h, ← c, lt-ltb _ _ l, ← p, ← q, not-false _ (sym e))

module _ (first used : ℕ) (archetypes indices numbers counts : List ℕ) (a r last : ℕ) (c : last ≡ get_or counts a 0 - 1) where
  pub is_last : r ≡ last → false ≡ moved_seen first used archetypes indices numbers counts a r
  unfolding moved_seen
  is_last e = rw (← c, eq-eqb _ _ e)

  module _ (e : r ≡ last → ⊥) (m : ℕ) (q : m ≡ get_or numbers (first + last) 0) where
    pub past_used : used ≤ m → true ≡ moved_seen first used archetypes indices numbers counts a r
    unfolding moved_seen
    past_used h = rw (← c, ne_eqb _ _ e, ← q, le-leb _ _ h)

    module _ (h : m < used) (b : ℕ) (p : b ≡ get_or archetypes m 0) where
      pub elsewhere : (b ≡ a → ⊥) → true ≡ moved_seen first used archetypes indices numbers counts a r
      unfolding moved_seen
      elsewhere f = rw (← c, ne_eqb _ _ e, ← q, lt-leb _ _ h, ← p, ne_eqb _ _ f)

      pub by_index : (x : ℕ) → x ≡ get_or indices m 0 → b ≡ a → not (eqb x last) ≡ moved_seen first used archetypes indices numbers counts a r
      unfolding moved_seen
      by_index x s f = rw (← c, ne_eqb _ _ e, ← q, lt-leb _ _ h, ← p, eq-eqb _ _ f, ← s)

module _ (d : Decl) (i : Ids) (numbers counts : List ℕ) (g n : ℕ) where
  pub unflushed : flushed i.head ≡ false → refused 3 ≡ entity_seen d i numbers counts g n
  unfolding entity_seen ◌or_else◌
  unflushed f = rw f

  -- the generation and the number, as the code has taken them from the handle
  module _ (g' n' : ℕ) (eg : g' ≡ g) (en : n' ≡ n) (f : flushed i.head ≡ true) where
    pub absent : live i g' n' ≡ false → refused 2 ≡ entity_seen d i numbers counts g n
    unfolding entity_seen ◌or_else◌
    absent l = rw (← eg, ← en, f, l)

    module _ (l : live i g' n' ≡ true) (place : Place) (p : place ≡ place_at i n') (own : Option Span)
        (o : own_of own ≡ own_seen d numbers counts place.archetype place.index.0 n') where
      pub not_own : own ≡ None → refused 1 ≡ entity_seen d i numbers counts g n
      unfolding entity_seen ◌or_else◌
      not_own a = rw (← eg, ← en, f, l, ← (rw p at o), a)

      pub its_own : (span : Span) → own ≡ Some span → granted (span, place) ≡ entity_seen d i numbers counts g n
      unfolding entity_seen ◌or_else◌
      its_own span a = rw (← eg, ← en, f, l, ← (rw p at o), a, p)
