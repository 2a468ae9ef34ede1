-- The ways through the rule of alloc, over plain values.
-- Assumes nothing.
use Prim.{tt}
use Prim.Native.Nat.{ℕ, ◌+◌, ◌-◌, ◌<◌, ◌≤◌}
use mathlib.Core.Path.{◌≡◌, sym, ◌∙◌}
use mathlib.Core.Bool.{Bool, true, false}
use mathlib.Core.List.{List, [], ◌∷◌}
use native.Mathlib.Omega.{arith}
use native.Mathlib.Nat.{pos_of_ne-zero}
use borrow.Author.Tests.{lt-ltb, le-ltb, le-leb, lt-leb}
use lib.Dec.{lit<}
use lib.ListN.{set}
use Rattle.std.specs.Prelude.{Result}
use Rattle.refusal.specs.Table.{granted, refused, ◌when◌, ◌or_else◌, passing, Did}
use Rattle.refusal.specs.Laws.{go, past}
use Rattle.refusal.specs.declared.Refusal.{Refusal}
use Rattle.handle.specs.Bits.{MAX, handle_of, new_handle}
use Rattle.handle.specs.declared.Handle.{Handle}
use Rattle.handle.specs.declared.Place.{Place}
use Rattle.id_tables.specs.declared.head.Head.{Head}
use Rattle.id_tables.specs.Head.{flushed, flushed_head}
use Rattle.id_tables.specs.Ids.{Ids, ids_of, entry, capacity, room, damaged, generation_at}
use Rattle.id_tables.proofs.Meaning.{Undamaged}
use Rattle.ids.specs.Alloc.{last_pending, alloc_rules, allocated_last, allocated_new, allocating}
use Rattle.ids.proofs.Giving.{made, makes_handle, given_did}
use Rattle.ids.proofs.Passing.{flushed_room, alloc_ok}

-- the tests, one after the other
module _ (s : Ids) (place : Place) (e : granted tt ≡ passing (entry s false)) where
  pub unflushed : flushed s.head ≡ false → refused 3 ≡ passing (alloc_rules s place)
  unfolding alloc_rules ◌or_else◌
  unflushed f = sym (go (entry s false) _ _ e ∙ simp f)

  module _ (f : flushed s.head ≡ true) where
    pub no_index : MAX ≤ place.index.0 → refused 6 ≡ passing (alloc_rules s place)
    unfolding alloc_rules ◌or_else◌
    no_index h = sym (go (entry s false) _ _ e ∙ simp (f, le-leb _ _ h))

    module _ (h : place.index.0 < MAX) where
      module _ (z : s.head.pending ≡ 0) where
        pub full : capacity s ≤ s.head.used → refused 4 ≡ passing (alloc_rules s place)
        unfolding alloc_rules ◌or_else◌
        full k = sym (go (entry s false) _ _ e ∙ simp (f, lt-leb _ _ h, lt-ltb (room s) 1 (omega (arith, flushed_room s f))))

        pub new_passes : s.head.used < capacity s → granted tt ≡ passing (alloc_rules s place)
        unfolding alloc_rules ◌or_else◌
        new_passes k = sym (go (entry s false) _ _ e ∙ simp (f, lt-leb _ _ h, le-ltb (room s) 1 (omega (arith, flushed_room s f)), le-ltb 0 s.head.pending (omega arith)))

      pub last_decides : (number : ℕ) (b : Bool) → (s.head.pending ≡ 0 → ⊥) → number ≡ last_pending s → damaged s number ≡ b
          → passing (1 when b ∷ []) ≡ passing (alloc_rules s place)
      unfolding alloc_rules ◌or_else◌
      last_decides number b z p d =
          let k : 0 < s.head.pending = pos_of_ne-zero z in
          sym (go (entry s false) _ _ e ∙ simp (f, lt-leb _ _ h, le-ltb (room s) 1 (omega (arith, flushed_room s f)), lt-ltb 0 s.head.pending k, ← p, d))

module _ (s : Ids) (place : Place) (e : granted tt ≡ passing (alloc_rules s place)) where
  pub new_room : s.head.pending ≡ 0 → s.head.used < capacity s
  new_room z = omega (arith, (alloc_ok s place e).has_room, flushed_room s (alloc_ok s place e).is_flushed)

  pub goes_new : s.head.pending ≡ 0 → allocating s place ≡ granted (allocated_new s place)
  unfolding allocating
  goes_new z = past (alloc_rules s place) _ e ∙ simp (le-ltb 0 s.head.pending (omega arith))

  pub goes_last : (s.head.pending ≡ 0 → ⊥) → allocating s place ≡ granted (allocated_last s place)
  unfolding allocating
  goes_last z = past (alloc_rules s place) _ e ∙ simp (lt-ltb 0 s.head.pending (pos_of_ne-zero z))

-- the two steps: what they write is what the rule grants
module _ (s : Ids) (place : Place) (number generation : ℕ) (u : Undamaged s.head.used s.generations s.indices (last_pending s)) (n : number ≡ last_pending s)
    (g : generation ≡ generation_at s number) where
  pub last_did : (r : Result Handle Refusal) (left : Head) (archetypes indices : List ℕ)
      → left ≡ flushed_head s.head.used (s.head.pending - 1) (s.head.live + 1)
      → (archetypes ≡ set s.archetypes number place.archetype) × (indices ≡ set s.indices number place.index.0)
      → handle_of r ≡ new_handle number generation
      → Did (granted (allocated_last s place)) s (handle_of r) (ids_of left s.generations archetypes indices s.pending)
  last_did r left archetypes indices l w e = given_did (made r number generation e (makes_handle u n g)) (rw (l, w.0, w.1, g, n))

pub new_did : (s : Ids) (place : Place) (r : Result Handle Refusal) (left : Head) (generations archetypes indices : List ℕ)
    → left ≡ flushed_head (s.head.used + 1) s.head.pending (s.head.live + 1)
    → (generations ≡ set s.generations s.head.used 1) × (archetypes ≡ set s.archetypes s.head.used place.archetype) × (indices ≡ set s.indices s.head.used place.index.0)
    → handle_of r ≡ new_handle s.head.used 1
    → Did (granted (allocated_new s place)) s (handle_of r) (ids_of left generations archetypes indices s.pending)
new_did s place r left generations archetypes indices l w e = given_did (made r s.head.used 1 e (lit< tt)) (rw (l, w.0, w.1, w.2))
