-- The ways through the tests of a despawn, over plain values.
-- Assumes nothing.
use Prim.Native.Nat.{ℕ}
use mathlib.Core.Path.{◌≡◌, sym, ◌∙◌}
use mathlib.Core.Bool.{Bool, true, false}
use mathlib.Core.List.{[], ◌∷◌}
use lib.Dec.{eqb}
use borrow.Author.Tests.{eq-eqb, ne_eqb}
use Rattle.refusal.specs.Table.{◌when◌, granted, refused, ◌or_else◌, ◌otherwise◌}
use Rattle.handle.specs.declared.Place.{Place}
use Rattle.borrow_word.specs.Slice.{any_held}
use Rattle.id_tables.specs.Ids.{place_at}
use Rattle.decl.specs.Places.{span_of}
use Rattle.decl.specs.declared.Span.{Span}
use Rattle.store_tables.specs.Store.{Store}
use Rattle.store_tables.specs.Rows.{archetype_of, row_of, moved_damaged}
use Rattle.store_tables.specs.Kept.{Entered}
use Rattle.store_tables.specs.Seen.{moved_seen, entity_seen}
use Rattle.store_tables.proofs.Places.{moved_seen_lem}
use Rattle.store_tables.proofs.Entities.{entity_first, entity_refused, entity_goes, entity_span, entity_place}
use Rattle.store_despawn.specs.Despawn.{despawn_rules}
use Rattle.store_despawn.specs.Seen.{leaving}

module _ (s : Store) (e : Entered s) (g n : ℕ) where
  pub unfit : {m : ℕ} → refused m ≡ entity_seen s.decl s.ids s.rows.numbers s.rows.counts g n → refused m ≡ leaving s g n
  unfolding leaving despawn_rules
  unfit p = sym (entity_first s g n _ _ ∙ entity_refused s e g n _ p)

  module _ (span : Span) (place : Place) (p : granted (span, place) ≡ entity_seen s.decl s.ids s.rows.numbers s.rows.counts g n) where
    -- the lines that are left
    further : leaving s g n
        ≡ (8 when any_held s.words ∷ 1 when eqb s.ids.head.live 0 ∷ 1 when moved_damaged s (archetype_of s n) (row_of s n) ∷ []
        otherwise (span_of s.decl (archetype_of s n), place_at s.ids n))
    unfolding leaving despawn_rules
    further = entity_first s g n _ _ ∙ entity_goes s e g n span place p _

    pub held : true ≡ any_held s.words → refused 8 ≡ leaving s g n
    unfolding ◌or_else◌
    held t = rw (further, ← t)

    module _ (w : false ≡ any_held s.words) where
      pub none_live : s.ids.head.live ≡ 0 → refused 1 ≡ leaving s g n
      unfolding ◌or_else◌
      none_live z = rw (further, ← w, eq-eqb _ _ z)

      module _ (z : s.ids.head.live ≡ 0 → ⊥) (moved : Bool) (m : moved ≡ moved_seen span.row s.ids.head.used s.ids.archetypes s.ids.indices s.rows.numbers s.rows.counts place.archetype place.index.0) where
        seen : moved ≡ moved_damaged s (archetype_of s n) (row_of s n)
        seen = (rw (entity_span s e g n span place p, entity_place s e g n span place p) at m) ∙ moved_seen_lem s (archetype_of s n) (row_of s n)

        pub moved_damaged_lem : moved ≡ true → refused 1 ≡ leaving s g n
        unfolding ◌or_else◌
        moved_damaged_lem t = rw (further, ← w, ne_eqb _ _ z, ← seen, t)

        pub leaves : moved ≡ false → granted (span, place) ≡ leaving s g n
        unfolding ◌or_else◌
        leaves t = rw (further, ← w, ne_eqb _ _ z, ← seen, t, entity_span s e g n span place p, entity_place s e g n span place p)
