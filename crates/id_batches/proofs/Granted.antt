-- When each call is granted, and what it leaves then, for callers that do not open its rule.
-- Assumes nothing.
use Prim.{Unit, tt}
use Prim.Native.Nat.{ℕ, ◌+◌, ◌≤◌}
use mathlib.Core.Path.{◌≡◌, refl, sym, ◌∙◌}
use mathlib.Core.Bool.{Bool, true, false}
use mathlib.Core.List.{List, ◌++◌}
use borrow.Author.Tests.{le-ltb, ltb-false, not-false}
use lib.ListN.{length, drop}
use Rattle.refusal.specs.Table.{granted, ◌or_else◌, passing}
use Rattle.refusal.specs.Laws.{passed_all, past, none_holds, value_of_lem}
use Rattle.handle.specs.Bits.{MAX}
use Rattle.id_tables.specs.Head.{free_of, flushed, fallen}
use Rattle.id_tables.specs.Ids.{Ids, ids_of, entry, room, any_damaged, EntryOk}
use Rattle.id_tables.specs.Lookup.{reserved_old}
use Rattle.id_tables.proofs.Entering.{entry_ok, entry_long}
use Rattle.id_tables.proofs.Meaning.{ok_passes}
use Rattle.id_batches.specs.declared.many.AllocManyState.{AllocManyState}
use Rattle.id_batches.specs.Reserve.{recycled, handles, old_handles, entities_reserved, reserving}
use Rattle.id_batches.specs.Freelist.{free_ones, free_listed, listing}
use Rattle.id_batches.specs.Flush.{reserved_count, flushed_ids, reserved_placed, flushing}
use Rattle.id_batches.specs.AllocMany.{last_pending, many_state, alloced_ids, many_alloced, allocating_many}

-- the first tests pass, with an output that is long enough
passes : (s : Ids) (short : Bool) → short ≡ false → EntryOk s → granted tt ≡ passing (entry s short)
passes s short e ok = rw e (sym (ok_passes s ok))

-- a reservation
pub record ReserveManyOk (s : Ids) (n places : ℕ) : Type 0 where
  pub ok : EntryOk s
  pub places_in : n ≤ places
  pub room_in : n ≤ room s
  pub whole : any_damaged s (recycled s n) ≡ false

abbrev pub fallen_ids : Ids → ℕ → Ids
fallen_ids s n = ids_of (fallen s.head n) s.generations s.archetypes s.indices s.pending

module _ (s : Ids) (n : ℕ) (out : List ℕ) where
  pub reserving_at : ReserveManyOk s n (length out) → reserving s n out ≡ granted (tt, (fallen_ids s n, handles s n ++ drop n out))
  unfolding reserving entities_reserved ◌or_else◌
  reserving_at m =
      past (entry s _) _ (passes s _ (le-ltb (length out) n m.places_in) m.ok) ∙ simp (le-ltb (room s) n m.room_in, m.whole)

  pub reserving_parts : {x : Unit {0} × (Ids × List ℕ)} → granted x ≡ reserving s n out → ReserveManyOk s n (length out) × (x ≡ (tt, (fallen_ids s n, handles s n ++ drop n out)))
  unfolding reserving entities_reserved
  reserving_parts e =
      let p = passed_all (entry s _) _ e in
      let h = none_holds _ (passed_all _ _ p.1).0 in
      (record { ok = entry_ok s _ p.0; places_in = ltb-false _ _ (entry_long s _ p.0); room_in = ltb-false _ _ h.0; whole = h.1.0 }, value_of_lem _ _ p.1)

-- the free list
pub record ListOk (s : Ids) (places : ℕ) : Type 0 where
  pub ok : EntryOk s
  pub places_in : free_of s.head.cursor ≤ places
  pub whole : any_damaged s (free_ones s) ≡ false

module _ (s : Ids) (out : List ℕ) where
  abbrev listed : ℕ × List ℕ
  listed = (free_of s.head.cursor, old_handles s.generations (free_ones s) ++ drop (free_of s.head.cursor) out)

  pub listing_at : ListOk s (length out) → listing s out ≡ granted listed
  unfolding listing free_listed ◌or_else◌
  listing_at m = past (entry s _) _ (passes s _ (le-ltb (length out) (free_of s.head.cursor) m.places_in) m.ok) ∙ simp m.whole

  pub listing_parts : {x : ℕ × List ℕ} → granted x ≡ listing s out → ListOk s (length out) × (x ≡ listed)
  unfolding listing free_listed
  listing_parts e =
      let p = passed_all (entry s _) _ e in
      let h = none_holds _ (passed_all _ _ p.1).0 in
      (record { ok = entry_ok s _ p.0; places_in = ltb-false _ _ (entry_long s _ p.0); whole = h.0 }, value_of_lem _ _ p.1)

-- a flush
pub record FlushOk (s : Ids) (first : ℕ) : Type 0 where
  pub ok : EntryOk s
  pub rows_in : first + reserved_count s ≤ MAX
  pub whole : any_damaged s (reserved_old s) ≡ false

module _ (s : Ids) (archetype first : ℕ) where
  pub flushing_at : FlushOk s first → flushing s archetype first ≡ granted (tt, flushed_ids s archetype first)
  unfolding flushing reserved_placed ◌or_else◌
  flushing_at m = past (entry s false) _ (passes s false refl m.ok) ∙ simp (le-ltb MAX (first + reserved_count s) m.rows_in, m.whole)

  pub flushing_parts : {x : Unit {0} × Ids} → granted x ≡ flushing s archetype first → FlushOk s first × (x ≡ (tt, flushed_ids s archetype first))
  unfolding flushing reserved_placed
  flushing_parts e =
      let p = passed_all (entry s false) _ e in
      let h = none_holds _ (passed_all _ _ p.1).0 in
      (record { ok = entry_ok s false p.0; rows_in = ltb-false _ _ h.0; whole = h.1.0 }, value_of_lem _ _ p.1)

-- alloc many
pub record AllocManyOk (s : Ids) (n first : ℕ) : Type 0 where
  pub ok : EntryOk s
  pub is_flushed : flushed s.head ≡ true
  pub rows_in : first + n ≤ MAX
  pub room_in : n ≤ room s
  pub whole : any_damaged s (last_pending s n) ≡ false

module _ (s : Ids) (n archetype first : ℕ) where
  pub allocating_many_at : AllocManyOk s n first → allocating_many s n archetype first ≡ granted (many_state s n, alloced_ids s n archetype first)
  unfolding allocating_many many_alloced ◌or_else◌
  allocating_many_at m =
      past (entry s false) _ (passes s false refl m.ok) ∙ simp (m.is_flushed, le-ltb MAX (first + n) m.rows_in, le-ltb (room s) n m.room_in, m.whole)

  pub allocating_many_parts : {x : AllocManyState × Ids} → granted x ≡ allocating_many s n archetype first → AllocManyOk s n first × (x ≡ (many_state s n, alloced_ids s n archetype first))
  unfolding allocating_many many_alloced
  allocating_many_parts e =
      let p = passed_all (entry s false) _ e in
      let h = none_holds _ (passed_all _ _ p.1).0 in
      (record { ok = entry_ok s false p.0; is_flushed = not-false _ h.0; rows_in = ltb-false _ _ h.1.0; room_in = ltb-false _ _ h.1.1.0; whole = h.1.1.1.0 }, value_of_lem _ _ p.1)
