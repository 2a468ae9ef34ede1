-- What a set place leaves: the place of its number, every other number's, and what every lookup says then.
-- Assumes nothing.
use Prim.{Unit, tt}
use Rattle.std.proofs.Common.{◌≡◌, ℕ, ◌<◌, Bool, true, false, eqb, ltb, length, refl, ap, ◌∙◌, arith, length-set, get_or-set_other, get_or-set_same, ltb-true, ne_eqb, eqb-true, leb-false}
use borrow.Author.Tests.{not-true, not-false, eqb-false}
use Rattle.refusal.specs.Table.{granted}
use Rattle.refusal.specs.Laws.{passed_all, none_holds, value_of_lem}
use Rattle.handle.specs.Bits.{MAX, generation_in, number_in}
use Rattle.handle.specs.declared.Place.{Place}
use Rattle.id_tables.specs.Ids.{Ids, entry, live, live_in, generation_at, index_at, place_at, placed, EntryOk}
use Rattle.id_tables.specs.Lookup.{is_reserved_old, is_contained, place_got, place_set, setting_place}
use Rattle.refusal.specs.Truth.{and_parts}
use Rattle.id_tables.proofs.Laws.{Entered, at_rest, entered, got_live}

-- past the first tests, and what is granted
module _ (s : Ids) (bits : ℕ) (place : Place) where
  pub setting_at : Entered s bits → setting_place s bits place ≡ place_set s place (generation_in bits) (number_in bits)
  unfolding setting_place
  setting_at t = at_rest s bits _ t

  pub setting_parts : {x : Unit {0} × Ids} → granted x ≡ setting_place s bits place → Entered s bits × (granted x ≡ place_set s place (generation_in bits) (number_in bits))
  unfolding setting_place
  setting_parts e = entered s bits _ e

module _ (s : Ids) (place : Place) (g n : ℕ) where
  pub set_parts : {t : Ids} → granted (tt, t) ≡ place_set s place g n → (place.index.0 < MAX) × (live s g n ≡ true) × (t ≡ placed s n place)
  unfolding place_set
  set_parts e =
      let p = passed_all _ _ e in
      let h = none_holds _ p.0 in
      (leb-false _ _ h.0, not-false _ h.1.0, ap (λ x. x.1) (value_of_lem _ _ e))

-- the tables with number n at a place
module _ (s : Ids) (n : ℕ) (place : Place) where
  pub placed_here : n < length s.archetypes → n < length s.indices → place_at (placed s n place) n ≡ place
  placed_here a x = rw (get_or-set_same s.archetypes n place.archetype 0 a, get_or-set_same s.indices n place.index.0 0 x)

  pub placed_other : (m : ℕ) → (m ≡ n → ⊥) → place_at (placed s n place) m ≡ place_at s m
  placed_other m ne = rw (get_or-set_other s.archetypes n m place.archetype 0 ne, get_or-set_other s.indices n m place.index.0 0 ne)

  pub placed_kept : ((placed s n place).head ≡ s.head) × ((placed s n place).generations ≡ s.generations) × ((placed s n place).pending ≡ s.pending)
  placed_kept = (refl, refl, refl)

  -- they pass the same first tests
  pub placed_entry : (short : Bool) → entry (placed s n place) short ≡ entry s short
  unfolding entry
  placed_entry short = simp length-set

-- a live number set to a place: what every lookup says then
module _ (s : Ids) (g n : ℕ) (place : Place) (ok : EntryOk s) (l : live s g n ≡ true) (x : place.index.0 < MAX) where
  inside : n < length s.generations
  unfolding live_in
  inside = omega (arith, ltb-true n s.head.used (and_parts _ _ l).0)

  had : eqb (index_at s n) MAX ≡ false
  unfolding live_in
  had = not-true _ (and_parts (eqb (generation_at s n) g) _ (and_parts (ltb n s.head.used) _ l).1).1

  pub set_here : place_at (placed s n place) n ≡ place
  set_here = placed_here s n place (omega (arith, inside)) (omega (arith, inside))

  -- whether a number has an index is as it was
  index_same : (m : ℕ) (b : Bool) → eqb m n ≡ b → eqb (index_at (placed s n place) m) MAX ≡ eqb (index_at s m) MAX
  index_same m true e = rw (eqb-true m n e, get_or-set_same s.indices n place.index.0 0 (omega (arith, inside)), had) (ne_eqb place.index.0 MAX (λ q. omega arith))
  index_same m false e = rw (get_or-set_other s.indices n m place.index.0 0 (eqb-false m n e))

  pub set_live : (h m : ℕ) → live (placed s n place) h m ≡ live s h m
  unfolding live_in
  set_live h m = rw (index_same m (eqb m n) refl)

  pub set_contained : (h m : ℕ) → is_contained (placed s n place) h m ≡ is_contained s h m
  unfolding is_contained is_reserved_old
  set_contained h m = rw (set_live h m)

  pub set_got : place_got (placed s n place) g n ≡ granted place
  set_got = got_live (placed s n place) g n (set_live g n ∙ l) ∙ ap granted set_here

  pub set_got_other : (h m : ℕ) → (m ≡ n → ⊥) → place_got (placed s n place) h m ≡ place_got s h m
  unfolding place_got
  set_got_other h m ne = rw (set_live h m, placed_other s n place m ne)
