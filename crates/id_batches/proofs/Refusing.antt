-- What each call refuses where the first tests pass and the entries that it takes are whole: its own lines, and no 1.
-- Assumes nothing.
use Prim.{tt}
use Prim.Native.Nat.{ℕ, ◌+◌}
use mathlib.Core.Path.{◌≡◌, sym, ◌∙◌}
use mathlib.Core.Bool.{false, not}
use mathlib.Core.List.{List, [], ◌∷◌, ◌++◌}
use lib.Dec.{ltb}
use lib.ListN.{length, drop}
use Rattle.refusal.specs.Table.{◌when◌, granted, ◌otherwise◌, passing}
use Rattle.refusal.specs.Laws.{past, parts}
use Rattle.handle.specs.Bits.{MAX}
use Rattle.id_tables.specs.Head.{free_of, flushed}
use Rattle.id_tables.specs.Ids.{Ids, entry, room, any_damaged}
use Rattle.id_tables.specs.Lookup.{reserved_old}
use Rattle.id_tables.proofs.Refusing.{last_line, entry_lines}
use Rattle.id_batches.specs.Reserve.{recycled, handles, old_handles, entities_reserved, reserving}
use Rattle.id_batches.specs.Freelist.{free_ones, free_listed, listing}
use Rattle.id_batches.specs.Flush.{reserved_count, flushed_ids, reserved_placed, flushing}
use Rattle.id_batches.specs.AllocMany.{last_pending, many_state, alloced_ids, many_alloced, allocating_many}
use Rattle.id_batches.proofs.Granted.{fallen_ids}

module _ (s : Ids) (e : granted tt ≡ passing (entry s false)) where
  pub reserving_lines : (n : ℕ) (out : List ℕ) → any_damaged s (recycled s n) ≡ false
      → reserving s n out ≡ (13 when ltb (length out) n ∷ 4 when ltb (room s) n ∷ [] otherwise (tt, (fallen_ids s n, handles s n ++ drop n out)))
  unfolding reserving entities_reserved
  reserving_lines n out w =
      entry_lines s e (ltb (length out) n) (entities_reserved s n out)
      ∙ (sym (parts (13 when ltb (length out) n ∷ []) (4 when ltb (room s) n ∷ 1 when any_damaged s (recycled s n) ∷ []) _)
      ∙ last_line (13 when ltb (length out) n ∷ 4 when ltb (room s) n ∷ []) 1 _ _ (λ _. w))

  pub listing_lines : (out : List ℕ) → any_damaged s (free_ones s) ≡ false
      → listing s out
      ≡ (13 when ltb (length out) (free_of s.head.cursor) ∷ [] otherwise (free_of s.head.cursor, old_handles s.generations (free_ones s) ++ drop (free_of s.head.cursor) out))
  unfolding listing free_listed
  listing_lines out w =
      entry_lines s e (ltb (length out) (free_of s.head.cursor)) (free_listed s out)
      ∙ (sym (parts (13 when ltb (length out) (free_of s.head.cursor) ∷ []) (1 when any_damaged s (free_ones s) ∷ []) _)
      ∙ last_line (13 when ltb (length out) (free_of s.head.cursor) ∷ []) 1 _ _ (λ _. w))

  pub flushing_lines : (archetype first : ℕ) → any_damaged s (reserved_old s) ≡ false
      → flushing s archetype first ≡ (6 when ltb MAX (first + reserved_count s) ∷ [] otherwise (tt, flushed_ids s archetype first))
  unfolding flushing reserved_placed
  flushing_lines archetype first w =
      past (entry s false) _ e ∙ last_line (6 when ltb MAX (first + reserved_count s) ∷ []) 1 _ _ (λ _. w)

  pub allocating_many_lines : (n archetype first : ℕ) → any_damaged s (last_pending s n) ≡ false
      → allocating_many s n archetype first
      ≡ (3 when not (flushed s.head)
      ∷ 6 when ltb MAX (first + n)
      ∷ 4 when ltb (room s) n
      ∷ []
      otherwise (many_state s n, alloced_ids s n archetype first))
  unfolding allocating_many many_alloced
  allocating_many_lines n archetype first w =
      past (entry s false) _ e ∙ last_line (3 when not (flushed s.head) ∷ 6 when ltb MAX (first + n) ∷ 4 when ltb (room s) n ∷ []) 1 _ _ (λ _. w)
