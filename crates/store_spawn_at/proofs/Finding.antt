-- The ways to what the chosen number is, over plain values.
-- Assumes nothing.
use Prim.Native.Nat.{ℕ, ◌<◌, ◌≤◌}
use mathlib.Core.Path.{◌≡◌, ap}
use mathlib.Core.Bool.{true, false}
use lib.Dec.{eqb}
use borrow.Author.Tests.{lt-ltb, le-ltb}
use mathlib.Core.Option.{Option, none, some}
use Rattle.handle.specs.Bits.{MAX}
use Rattle.handle.specs.declared.Place.{Place}
use Rattle.id_tables.specs.Ids.{damaged, index_at, place_at}
use Rattle.ids.specs.AllocAt.{is_pending}
use Rattle.decl.specs.declared.Span.{Span}
use Rattle.store_tables.specs.Store.{Store}
use Rattle.store_tables.specs.Kept.{Entered}
use Rattle.store_tables.specs.Seen.{own_seen}
use Rattle.store_tables.proofs.Places.{owned, not_owned}
use Rattle.store_spawn_at.specs.declared.Standing.TheVariants.{Free, Damaged, Seated, Astray}
use Rattle.store_spawn_at.specs.SpawnAt.{chosen_live}
use Rattle.store_spawn_at.specs.Seen.{Stands}

module _ (s : Store) (n : ℕ) where
  pub never_used : s.ids.head.used ≤ n → Stands s n Free
  unfolding chosen_live Stands
  never_used h = (rw (le-ltb _ _ h), rw (le-ltb _ _ h))

  module _ (h : n < s.ids.head.used) where
    module _ (p : true ≡ is_pending s.ids n) where
      pub pending_bad : true ≡ damaged s.ids n → Stands s n Damaged
      unfolding chosen_live Stands
      pending_bad d = (rw (lt-ltb _ _ h, ← p), rw (lt-ltb _ _ h, ← p, ← d))

      pub pending_good : false ≡ damaged s.ids n → Stands s n Free
      unfolding chosen_live Stands
      pending_good d = (rw (lt-ltb _ _ h, ← p), rw (lt-ltb _ _ h, ← p, ← d))

    module _ (p : false ≡ is_pending s.ids n) (place : Place) (x : place ≡ place_at s.ids n) where
      same_index : eqb place.index.0 MAX ≡ eqb (index_at s.ids n) MAX
      same_index = ap (λ (y : Place). eqb y.index.0 MAX) x

      pub unplaced : true ≡ eqb place.index.0 MAX → Stands s n Damaged
      unfolding chosen_live Stands
      unplaced q = (rw (lt-ltb _ _ h, ← p, ← same_index, ← q), rw (lt-ltb _ _ h, ← p, ← same_index, ← q))

      module _ (q : false ≡ eqb place.index.0 MAX) (e : Entered s) where
        lives : chosen_live s.ids n ≡ true
        unfolding chosen_live
        lives = rw (lt-ltb _ _ h, ← p, ← same_index, ← q)

        abbrev seen : Option Span
        seen = own_seen s.decl s.rows.numbers s.rows.counts place.archetype place.index.0 n

        pub no_own : none ≡ seen → Stands s n Astray
        unfolding Stands
        no_own o = (lives, not_owned s n e (rw x at o))

        pub in_own : (span : Span) → some span ≡ seen → Stands s n (Seated span place)
        unfolding Stands
        in_own span o = let f = owned s n e span (rw x at o) in (lives, f.0, f.1, x)
