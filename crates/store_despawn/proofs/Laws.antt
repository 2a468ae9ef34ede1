-- What despawn grants and leaves, for callers that do not open its rule.
-- Assumes nothing.
use Prim.{tt}
use Prim.Native.Nat.{ℕ}
use mathlib.Core.Path.{◌≡◌, ap}
use mathlib.Core.Bool.{true, false}
use borrow.Author.Tests.{not-false, eqb-false, ne_eqb}
use Rattle.refusal.specs.Table.{granted, passing, ◌or_else◌}
use Rattle.refusal.specs.Laws.{passed_all, none_holds, value_of_lem}
use Rattle.handle.specs.declared.Place.{Place}
use Rattle.borrow_word.specs.Slice.{any_held}
use Rattle.id_tables.specs.Head.{flushed}
use Rattle.id_tables.specs.Ids.{live, place_at}
use Rattle.decl.specs.Places.{span_of}
use Rattle.decl.specs.declared.Span.{Span}
use Rattle.store_tables.specs.Store.{Store}
use Rattle.store_tables.specs.Rows.{archetype_of, row_of, owns, moved_damaged}
use Rattle.store_despawn.specs.Despawn.{despawn_rules}
use Rattle.store_despawn.specs.Seen.{leaving}

-- what passing the tests of a despawn gives, beyond the first
pub record DespawnOk (s : Store) (g n : ℕ) : Type 0 where
  pub is_flushed : flushed s.ids.head ≡ true
  pub lives : live s.ids g n ≡ true
  pub own : owns s n ≡ true
  pub no_word : any_held s.words ≡ false
  pub some_live : s.ids.head.live ≡ 0 → ⊥
  pub moved_good : moved_damaged s (archetype_of s n) (row_of s n) ≡ false

module _ (s : Store) (g n : ℕ) where
  pub despawn_ok : granted tt ≡ passing (despawn_rules s g n) → DespawnOk s g n
  unfolding despawn_rules
  despawn_ok e =
      let p = none_holds _ e in
      record {
        is_flushed = not-false _ p.0;
        lives = not-false _ p.1.0;
        own = not-false _ p.1.1.0;
        no_word = p.1.1.1.0;
        some_live = eqb-false _ _ p.1.1.1.1.0;
        moved_good = p.1.1.1.1.1.0;
      }

  pub ok_despawn : DespawnOk s g n → granted tt ≡ passing (despawn_rules s g n)
  unfolding despawn_rules ◌or_else◌
  ok_despawn k = rw (k.is_flushed, k.lives, k.own, k.no_word, ne_eqb _ _ k.some_live, k.moved_good)

  pub leaving_parts : {span : Span} {place : Place} → granted (span, place) ≡ leaving s g n
      → (granted tt ≡ passing (despawn_rules s g n)) × (span ≡ span_of s.decl (archetype_of s n)) × (place ≡ place_at s.ids n)
  unfolding leaving
  leaving_parts e =
      let v = value_of_lem (despawn_rules s g n) (span_of s.decl (archetype_of s n), place_at s.ids n) e in
      ((passed_all (despawn_rules s g n) _ e).0, ap (λ (x : Span × Place). x.0) v, ap (λ (x : Span × Place). x.1) v)
