-- The ways through the tests of a spawn at, over plain values.
-- Assumes nothing.
use Prim.{tt}
use Prim.Native.Nat.{ℕ, ◌<◌, ◌≤◌}
use native.Mathlib.Omega.{arith}
use mathlib.Core.Path.{◌≡◌, refl, sym, ap, ◌∙◌}
use mathlib.Core.Bool.{Bool, true, false, not, ◌&&◌, ◌||◌}
use mathlib.Core.List.{[], ◌∷◌}
use lib.Dec.{leb, eqb}
use borrow.Author.Tests.{lt-ltb, le-ltb, le-leb, lt-leb, eqb-true, eqb-false, ne_eqb}
use Rattle.refusal.specs.Table.{◌when◌, granted, refused, ◌or_else◌, passing}
use Rattle.refusal.specs.Laws.{none_holds}
use Rattle.handle.specs.declared.Place.{Place}
use Rattle.borrow_word.specs.Slice.{any_held}
use Rattle.id_tables.specs.Head.{flushed}
use Rattle.id_tables.specs.Ids.{capacity}
use Rattle.ids.specs.AllocAt.{chosen_damaged}
use Rattle.decl.specs.Decl.{archetypes, rows_of}
use Rattle.row_step.specs.Tables.{count_of}
use Rattle.store_tables.specs.Store.{Store}
use Rattle.store_tables.specs.Rows.{archetype_of, row_of, owns, moved_damaged, vacated}
use Rattle.store_tables.specs.Kept.{Entered}
use Rattle.store_tables.proofs.Places.{Owned, owns_means, moved_seen_lem}
use Rattle.store_tables.proofs.Remaining.{count_left, count_kept}
use Rattle.store_spawn_at.specs.declared.Standing.{Standing}
use Rattle.store_spawn_at.specs.declared.Standing.TheVariants.{Free, Damaged, Seated, Astray}
use Rattle.store_spawn_at.specs.SpawnAt.{chosen_live, without_old, spawn_at_rules}
use Rattle.store_spawn_at.specs.Seen.{Stands, astray, full_seen, damaged_seen}
use Rattle.store_spawn_at.proofs.Laws.{live_means, old_left, none_left}

pub differ : true ≡ false → ⊥
differ q = let z : ◌≡◌ {A = ℕ} 0 1 = cc in omega arith

-- what was found says what each test of the rule does
module _ (s : Store) (n : ℕ) where
  pub astray_is : (st : Standing) → Stands s n st → astray st ≡ (chosen_live s.ids n && not (owns s n))
  unfolding Stands
  astray_is Free k = rw k.0
  astray_is Damaged k = rw k.0
  astray_is (Seated span place) k = rw (k.0, k.1)
  astray_is Astray k = rw (k.0, k.1)

  -- a live number's own entry is not damaged
  live_good : chosen_live s.ids n ≡ true → chosen_damaged s.ids n ≡ false
  live_good l =
      let k = live_means s.ids n l in simp (lt-ltb _ _ k.below, le-ltb _ _ k.not_pending) (ne_eqb _ _ k.placed)

  pub damaged_is : (st : Standing) → Stands s n st → astray st ≡ false
      → damaged_seen s.ids.head.used s.ids.archetypes s.ids.indices s.rows.numbers s.rows.counts st ≡ (chosen_damaged s.ids n || (chosen_live s.ids n && moved_damaged s (archetype_of s n) (row_of s n)))
  unfolding Stands
  damaged_is Free k q = rw (k.1, k.0)
  damaged_is Damaged k q = rw k.1
  damaged_is (Seated span place) k q = rw (live_good k.0, k.0, k.2, k.3) (moved_seen_lem s (archetype_of s n) (row_of s n))
  damaged_is Astray k q = absurd (differ q)

  module _ (a : ℕ) (e : Entered s) where
    abbrev full : Bool
    full = leb (rows_of s.decl a) (count_of (without_old s n).rows a)

    -- the old row is one of this archetype's, or it is not
    full_seated : (place : Place) → chosen_live s.ids n ≡ true → owns s n ≡ true → place.archetype ≡ archetype_of s n
        → (not (eqb place.archetype a) && leb (rows_of s.decl a) (count_of s.rows a)) ≡ full
    full_seated place l o p = rw (p, old_left s n l) (by (eqb (archetype_of s n) a) refl)
      where
        own : Owned s n
        own = owns_means s n o

        by : (b : Bool) → eqb (archetype_of s n) a ≡ b
            → (not (eqb (archetype_of s n) a) && leb (rows_of s.decl a) (count_of s.rows a)) ≡ leb (rows_of s.decl a) (count_of (vacated s (archetype_of s n) (row_of s n)).rows a)
        by true t =
            let q : archetype_of s n ≡ a = eqb-true _ _ t in
            let c = count_left s (archetype_of s n) (row_of s n) e own.archetype_in in
            let r : count_of (vacated s (archetype_of s n) (row_of s n)).rows (archetype_of s n) < rows_of s.decl (archetype_of s n) =
            omega (arith, c, own.row_in, e.rows.counts_in (archetype_of s n)) in
            rw (t, ← q) (sym (lt-leb _ _ r))
        by false t = rw (t, count_kept s (archetype_of s n) (row_of s n) e own.archetype_in a (λ q. eqb-false _ _ t (sym q)))

    pub full_is : (st : Standing) → Stands s n st → astray st ≡ false → full_seen s.decl.rows s.rows.counts a st ≡ full
    unfolding Stands
    full_is Free k q = rw (none_left s n k.0)
    full_is Damaged k q = rw (none_left s n k.0)
    full_is (Seated span place) k q = full_seated place k.0 k.1 (ap (λ (p : Place). p.archetype) k.3)
    full_is Astray k q = absurd (differ q)

-- the two tests for damage, seen as one
either : (x y z : Bool) → x ≡ (y || z) → x ≡ true → refused 1 ≡ passing (1 when y ∷ 1 when z ∷ [])
unfolding ◌or_else◌
either x true z e t = refl
either x false true e t = refl
either x false false e t = absurd (differ (sym t ∙ e))

neither : (x y z : Bool) → x ≡ (y || z) → x ≡ false → granted tt ≡ passing (1 when y ∷ 1 when z ∷ [])
unfolding ◌or_else◌
neither x true z e t = absurd (differ (sym e ∙ t))
neither x false true e t = absurd (differ (sym e ∙ t))
neither x false false e t = refl

-- each test as the code has seen it
module _ (s : Store) (a n : ℕ) where
  pub unflushed : false ≡ flushed s.ids.head → refused 3 ≡ passing (spawn_at_rules s a n)
  unfolding spawn_at_rules ◌or_else◌
  unflushed t = rw (← t)

  module _ (f : true ≡ flushed s.ids.head) where
    pub undeclared : archetypes s.decl ≤ a → refused 6 ≡ passing (spawn_at_rules s a n)
    unfolding spawn_at_rules ◌or_else◌
    undeclared t = rw (← f, le-leb _ _ t)

    module _ (h : a < archetypes s.decl) (st : Standing) (k : Stands s n st) where
      pub strays : true ≡ astray st → refused 1 ≡ passing (spawn_at_rules s a n)
      unfolding spawn_at_rules ◌or_else◌
      strays t = rw (← f, lt-leb _ _ h, ← astray_is s n st k, ← t)

      module _ (q : false ≡ astray st) where
        pub held : true ≡ any_held s.words → refused 8 ≡ passing (spawn_at_rules s a n)
        unfolding spawn_at_rules ◌or_else◌
        held t = rw (← f, lt-leb _ _ h, ← astray_is s n st k, ← q, ← t)

        module _ (w : false ≡ any_held s.words) where
          pub no_number : capacity s.ids ≤ n → refused 4 ≡ passing (spawn_at_rules s a n)
          unfolding spawn_at_rules ◌or_else◌
          no_number t = rw (← f, lt-leb _ _ h, ← astray_is s n st k, ← q, ← w, le-leb _ _ t)

          module _ (l : n < capacity s.ids) (e : Entered s) where
            pub no_row : true ≡ full_seen s.decl.rows s.rows.counts a st → refused 4 ≡ passing (spawn_at_rules s a n)
            unfolding spawn_at_rules ◌or_else◌
            no_row t = rw (← f, lt-leb _ _ h, ← astray_is s n st k, ← q, ← w, lt-leb _ _ l, ← full_is s n a e st k (sym q), ← t)

            module _ (m : false ≡ full_seen s.decl.rows s.rows.counts a st) where
              abbrev harmed : Bool
              harmed = damaged_seen s.ids.head.used s.ids.archetypes s.ids.indices s.rows.numbers s.rows.counts st

              pub bad : true ≡ harmed → refused 1 ≡ passing (spawn_at_rules s a n)
              unfolding spawn_at_rules ◌or_else◌
              bad t = rw (← f, lt-leb _ _ h, ← astray_is s n st k, ← q, ← w, lt-leb _ _ l, ← full_is s n a e st k (sym q), ← m) (either harmed (chosen_damaged s.ids n) (chosen_live s.ids n && moved_damaged s (archetype_of s n) (row_of s n)) (damaged_is s n st k (sym q)) (sym t))

              pub passes : false ≡ harmed → granted tt ≡ passing (spawn_at_rules s a n)
              unfolding spawn_at_rules ◌or_else◌
              passes t = rw (← f, lt-leb _ _ h, ← astray_is s n st k, ← q, ← w, lt-leb _ _ l, ← full_is s n a e st k (sym q), ← m) (neither harmed (chosen_damaged s.ids n) (chosen_live s.ids n && moved_damaged s (archetype_of s n) (row_of s n)) (damaged_is s n st k (sym q)) (sym t))

  -- tests that passed found no number astray
  pub not_astray : (st : Standing) → Stands s n st → granted tt ≡ passing (spawn_at_rules s a n) → astray st ≡ false
  unfolding spawn_at_rules
  not_astray st k e = astray_is s n st k ∙ (none_holds _ e).1.1.0
