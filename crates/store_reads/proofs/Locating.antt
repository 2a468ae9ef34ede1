-- The place of a handle: what each answer of the tables means, and the rules that it decides.
-- Assumes nothing.
use Prim.{tt}
use Prim.Native.Nat.{ℕ}
use native.Mathlib.Omega.{arith}
use mathlib.Core.Path.{◌≡◌, refl, sym, ap, ◌∙◌}
use mathlib.Core.Bool.{Bool, true, false, not, cond, ◌||◌}
use mathlib.Core.List.{List, [], ◌∷◌, ◌++◌}
use mathlib.Core.Logic.{⊎_elim}
use mathlib.Core.Option as math
use borrow.Author.Tests.{not-false}
use Rattle.refusal.specs.Table.{◌when◌, Answer, granted, refused, ◌or_else◌}
use Rattle.refusal.specs.Laws.{not_refused, passed_all, none_holds}
use Rattle.handle.specs.Bits.{MAX}
use Rattle.handle.specs.declared.Place.{Place}
use Rattle.id_tables.specs.Ids.{Ids, live, place_at}
use Rattle.id_tables.specs.Lookup.{reserved_new, place_got}
use Rattle.id_tables.proofs.Laws.{got_parts, got_refused, new_not_live}
use Rattle.id_tables.proofs.Meaning.{lives}
use Rattle.decl.specs.Decl.{Decl, types_of}
use Rattle.decl.specs.Lookup.{column_of}
use Rattle.std.specs.Prelude.{Option, Some, None, Result, Err}
use Rattle.std.specs.Option.{ok_or}
use Rattle.refusal.specs.Number.{number_of}
use Rattle.refusal.specs.declared.Refusal.{Refusal}
use Rattle.refusal.specs.declared.Refusal.TheVariants.{NoComponent}
use Rattle.decl.specs.declared.Span.{Span}
use Rattle.store_tables.specs.Store.{Store}
use Rattle.store_tables.specs.Rows.{archetype_of, row_of, owns}
use Rattle.store_tables.specs.Seen.{own_seen, own_of}
use Rattle.store_tables.specs.Kept.{Entered}
use Rattle.store_tables.proofs.Places.{owned, not_owned, owns_means}
use Rattle.store_reads.specs.declared.component.Cell.{Cell}
use Rattle.store_reads.specs.Component.{◌and_then◌, place_rules, cell_in, column_cell, component_at}
use Rattle.store_reads.specs.Steps.{in_place, place_seen, RowIn, PlacedIn, component_for}

-- what the tables say of a handle, after what get said of it
module _ (d : Decl) (i : Ids) (numbers counts : List ℕ) (g n : ℕ) where
  pub seen_absent : {m : ℕ} → refused m ≡ place_got i g n → refused m ≡ place_seen d i numbers counts g n
  unfolding place_seen ◌or_else◌
  seen_absent e = let x = got_refused i g n e in rw (x.0, x.1)

  module _ (p : Place) (e : granted p ≡ place_got i g n) where
    -- a place with no row is that of a reserved new number
    reserved : p.index.0 ≡ MAX → reserved_new i.head g n ≡ true
    reserved x =
        ⊎_elim
        (λ (q : (live i g n ≡ true) × (p ≡ place_at i n)). absurd ((lives _ _ _ g n q.0).index (sym (ap (λ (o : Place). o.index.0) q.1) ∙ x)))
        (λ q. q.0) (got_parts i g n e)

    -- any other is that of a live number
    pub alive : (p.index.0 ≡ MAX → ⊥) → (live i g n ≡ true) × (p ≡ place_at i n)
    alive x = ⊎_elim (λ q. q) (λ q. absurd (x (ap (λ (o : Place). o.index.0) q.1))) (got_parts i g n e)

    pub seen_reserved : p.index.0 ≡ MAX → granted None ≡ place_seen d i numbers counts g n
    unfolding place_seen ◌or_else◌
    seen_reserved x = let r = reserved x in rw (new_not_live i g n r, r)

    module _ (x : p.index.0 ≡ MAX → ⊥) (m : ℕ) (id : m ≡ n) (own : Option Span) (o : own_of own ≡ own_seen d numbers counts p.archetype p.index.0 m) where
      pub seen_damaged : own ≡ None → refused 1 ≡ place_seen d i numbers counts g n
      unfolding place_seen ◌or_else◌
      seen_damaged a = let l = alive x in rw (l.0, ← (rw (id, l.1) at o), a)

      pub seen_held : (span : Span) → own ≡ Some span → granted (Some (p, span)) ≡ place_seen d i numbers counts g n
      unfolding place_seen ◌or_else◌
      seen_held span a = let l = alive x in rw (l.0, ← (rw (id, l.1) at o), a, l.1)

none_some : {A : Type 0} (x : A) → Some x ≡ None → ⊥
none_some x e = let y : ◌≡◌ {A = ℕ} 0 1 = cc in omega arith

-- past the first tests
module _ (s : Store) (e : Entered s) (g n : ℕ) where
  abbrev pub seen : Answer (Option (Place × Span))
  seen = place_seen s.decl s.ids s.rows.numbers s.rows.counts g n

  abbrev pub own : math.Option Span
  own = own_seen s.decl s.rows.numbers s.rows.counts (archetype_of s n) (row_of s n) n

  -- a place that was found is a row that is declared
  pub placed_in : (p : Option (Place × Span)) → granted p ≡ seen → PlacedIn s.decl p
  unfolding PlacedIn place_seen
  placed_in None h = tt
  placed_in (Some x) h =
      by (live s.ids g n) own refl (passed_all (2 when not (live s.ids g n || reserved_new s.ids.head g n) ∷ []) _ h).1
    where
      by : (l : Bool) (o : math.Option Span) → own ≡ o → granted (Some x) ≡ cond l (in_place (place_at s.ids n) o) (granted None) → RowIn s.decl x.0 x.1
      by true math.none p k = absurd (not_refused k)
      by true (math.some span) p k =
          let q : x ≡ (place_at s.ids n, span) = cc in
          let o = owned s n e span (sym p) in
          let w = owns_means s n o.0 in
          rw q (record { span_is = o.1; archetype_in = w.archetype_in; row_in = omega (arith, w.row_in, e.rows.counts_in (archetype_of s n)) })
      by false o p k = absurd (none_some x (cc))

  module _ (t : ℕ) where
    -- and decides which component the rule means
    component_told : component_at s t g n ≡ (seen and_then component_for s.decl t)
    unfolding component_at place_rules ◌or_else◌ place_seen component_for
    component_told = by (live s.ids g n) refl (reserved_new s.ids.head g n) refl own refl
      where
        by : (l : Bool) → live s.ids g n ≡ l → (r : Bool) → reserved_new s.ids.head g n ≡ r → (o : math.Option Span) → own ≡ o
            → component_at s t g n ≡ (seen and_then component_for s.decl t)
        by true l r q math.none p = rw (l, p, not_owned s n e (sym p))
        by true l r q (math.some x) p = rw (l, p, (owned s n e x (sym p)).0)
        by false l true q o p = rw (l, q)
        by false l false q o p = rw (l, q)

    pub component_unseen : {m : ℕ} → refused m ≡ seen → component_at s t g n ≡ refused m
    component_unseen h = component_told ∙ sym (ap (λ (k : Answer (Option (Place × Span))). k and_then component_for s.decl t) h)

    pub component_seen : (p : Option (Place × Span)) → granted p ≡ seen → component_at s t g n ≡ component_for s.decl t p
    component_seen p h = component_told ∙ sym (ap (λ (k : Answer (Option (Place × Span))). k and_then component_for s.decl t) h)

-- an entity with no row yet has no component
pub no_row : (d : Decl) (t : ℕ) (p : Option (Place × Span)) (e : Refusal) → ◌≡◌ {A = Result (Place × Span) Refusal} (Err e) (ok_or p NoComponent) → p ≡ None
    → refused (number_of e) ≡ component_for d t p
unfolding component_for
no_row d t p e v o = let w : ◌≡◌ {A = Result (Place × Span) Refusal} (Err e) (Err NoComponent) = rw o at v in let q : e ≡ NoComponent = cc in rw (o, q)

-- What a component that is answered is: an own place of a live handle, and the column of the type there.
pub record Held (s : Store) (t g n : ℕ) (c : Cell) : Type 0 where
  pub alive : live s.ids g n ≡ true
  pub own : owns s n ≡ true
  pub column : ℕ
  pub at : column_of (types_of s.decl (archetype_of s n)) t ≡ Some column
  pub cell : c ≡ cell_in s.decl (archetype_of s n) (row_of s n) column

module _ (s : Store) (t g n : ℕ) (c : Cell) where
  by_column : (k : Option ℕ) → column_of (types_of s.decl (archetype_of s n)) t ≡ k → granted c ≡ column_cell s.decl (archetype_of s n) (row_of s n) k
      → live s.ids g n ≡ true → owns s n ≡ true → Held s t g n c
  by_column (Some j) e h l o = record { alive = l; own = o; column = j; at = e; cell = cc }
  by_column None e h l o = absurd (not_refused h)

  pub component_parts : granted c ≡ component_at s t g n → Held s t g n c
  unfolding component_at place_rules
  component_parts e =
      let k : Option ℕ = column_of (types_of s.decl (archetype_of s n)) t in
      let p = passed_all (place_rules s g n ++ 15 when not (live s.ids g n) ∷ []) (column_cell s.decl (archetype_of s n) (row_of s n) k) e in
      let h = none_holds (place_rules s g n ++ 15 when not (live s.ids g n) ∷ []) p.0 in
      let l : live s.ids g n ≡ true = not-false _ h.1.1.0 in
      by_column k refl p.1 l (not-false _ (rw l at h.1.0))

  -- and it is answered there
  pub component_at_lem : Held s t g n c → component_at s t g n ≡ granted c
  unfolding component_at place_rules ◌or_else◌
  component_at_lem h = rw (h.alive, h.own, h.at, h.cell)
