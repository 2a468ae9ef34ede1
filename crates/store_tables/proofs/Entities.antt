-- What the tests of an entity give, what they see on tables that passed the first tests, and how they stand among a call's lines.
-- Assumes nothing.
use Prim.{tt}
use Prim.Native.Nat.{ℕ}
use mathlib.Core.Path.{◌≡◌, refl, sym, ap, ◌∙◌}
use mathlib.Core.Bool.{Bool, true, false, not}
use mathlib.Core.List.{List, [], ◌∷◌}
use mathlib.Core.Option.{Option, none, some}
use borrow.Author.Tests.{not-false}
use Rattle.refusal.specs.Table.{Rule, ◌when◌, Answer, granted, refused, ◌or_else◌, ◌otherwise◌, passing}
use Rattle.refusal.specs.Laws.{passed_all, none_holds, value_of_lem, past, parts, stops}
use Rattle.handle.specs.declared.Place.{Place}
use Rattle.id_tables.specs.Head.{flushed}
use Rattle.id_tables.specs.Ids.{live, place_at}
use Rattle.decl.specs.Places.{span_of}
use Rattle.decl.specs.declared.Span.{Span}
use Rattle.store_tables.specs.Store.{Store}
use Rattle.store_tables.specs.Rows.{archetype_of, row_of, owns}
use Rattle.store_tables.specs.Kept.{Entered}
use Rattle.store_tables.specs.Seen.{own_seen, entity_seen}
use Rattle.store_tables.specs.Entities.{entity_rules}
use Rattle.store_tables.proofs.Places.{owned, not_owned}

-- what passing the tests of an entity gives
pub record EntityOk (s : Store) (g n : ℕ) : Type 0 where
  pub is_flushed : flushed s.ids.head ≡ true
  pub lives : live s.ids g n ≡ true
  pub own : owns s n ≡ true

module _ (s : Store) (g n : ℕ) where
  pub entity_ok : granted tt ≡ passing (entity_rules s g n) → EntityOk s g n
  unfolding entity_rules
  entity_ok e = let p = none_holds _ e in record { is_flushed = not-false _ p.0; lives = not-false _ p.1.0; own = not-false _ p.1.1.0 }

  pub ok_entity : EntityOk s g n → granted tt ≡ passing (entity_rules s g n)
  unfolding entity_rules ◌or_else◌
  ok_entity k = rw (k.is_flushed, k.lives, k.own)

  -- lines that begin with those of an entity
  pub entity_first : {A : Type 0} (more : List Rule) (a : Answer A)
      → (3 when not (flushed s.ids.head) ∷ 2 when not (live s.ids g n) ∷ 1 when not (owns s n) ∷ more or_else a) ≡ (entity_rules s g n or_else (more or_else a))
  unfolding entity_rules
  entity_first more a = parts (entity_rules s g n) more a

-- what `entity_at` saw
module _ (s : Store) (e : Entered s) (g n : ℕ) where
  abbrev seen : Answer (Span × Place)
  seen = entity_seen s.decl s.ids s.rows.numbers s.rows.counts g n

  abbrev found : Span × Place
  found = (span_of s.decl (archetype_of s n), place_at s.ids n)

  pub entity_told : seen ≡ (entity_rules s g n otherwise found)
  unfolding entity_seen entity_rules ◌or_else◌
  entity_told =
      by (flushed s.ids.head) refl (live s.ids g n) refl (own_seen s.decl s.rows.numbers s.rows.counts (archetype_of s n) (row_of s n) n) refl
    where
      by : (f : Bool) → flushed s.ids.head ≡ f → (l : Bool) → live s.ids g n ≡ l
          → (o : Option Span) → own_seen s.decl s.rows.numbers s.rows.counts (archetype_of s n) (row_of s n) n ≡ o → seen ≡ (entity_rules s g n otherwise found)
      by false f l q o p = rw f
      by true f false q o p = rw (f, q)
      by true f true q none p = rw (f, q, p, not_owned s n e (sym p))
      by true f true q (some x) p = let w = owned s n e x (sym p) in rw (f, q, p, w.0, w.1)

  -- it refuses as the rule does, whatever follows
  pub entity_refused : {A : Type 0} {m : ℕ} (a : Answer A) → refused m ≡ seen → (entity_rules s g n or_else a) ≡ refused m
  entity_refused a p = stops (entity_rules s g n) found a (p ∙ entity_told)

  module _ (span : Span) (place : Place) (p : granted (span, place) ≡ seen) where
    pub entity_passed : granted tt ≡ passing (entity_rules s g n)
    entity_passed = (passed_all (entity_rules s g n) (granted found) (p ∙ entity_told)).0

    pub entity_goes : {A : Type 0} (a : Answer A) → (entity_rules s g n or_else a) ≡ a
    entity_goes a = past (entity_rules s g n) a entity_passed

    pub entity_span : span ≡ span_of s.decl (archetype_of s n)
    entity_span = ap (λ (x : Span × Place). x.0) (value_of_lem (entity_rules s g n) found (p ∙ entity_told))

    pub entity_place : place ≡ place_at s.ids n
    entity_place = ap (λ (x : Span × Place). x.1) (value_of_lem (entity_rules s g n) found (p ∙ entity_told))

-- with what a call tests before them, where the place is its own: no 1
prefix : {A : Type 0} (x b c d e : Bool) (a a' : Answer A) → (d ≡ false → (e ≡ false) × (a ≡ a'))
    → (13 when x ∷ 5 when b ∷ [] or_else (3 when c ∷ 2 when d ∷ 1 when e ∷ [] or_else a)) ≡ (13 when x ∷ 5 when b ∷ 3 when c ∷ 2 when d ∷ [] or_else a')
unfolding ◌or_else◌
prefix true b c d e a a' h = refl
prefix false true c d e a a' h = refl
prefix false false true d e a a' h = refl
prefix false false false true e a a' h = refl
prefix false false false false e a a' h = let k = h refl in rw k.0 k.1

pub entity_lines : {A : Type 0} (s : Store) (g n : ℕ) (short zero : Bool) (a a' : Answer A) → (live s.ids g n ≡ true → (owns s n ≡ true) × (a ≡ a'))
    → (13 when short ∷ 5 when zero ∷ [] or_else (entity_rules s g n or_else a)) ≡ (13 when short ∷ 5 when zero ∷ 3 when not (flushed s.ids.head) ∷ 2 when not (live s.ids g n) ∷ [] or_else a')
unfolding entity_rules
entity_lines s g n short zero a a' h =
    prefix short zero (not (flushed s.ids.head)) (not (live s.ids g n)) (not (owns s n)) a a' (λ d. let k = h (not-false _ d) in (ap not k.0, k.1))
