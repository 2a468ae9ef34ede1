-- What the reservations refuse where the first tests pass and the entries that they use are whole: their own lines, and no 1.
-- Assumes nothing.
use Prim.{Unit, tt}
use Prim.Native.Nat.{ℕ}
use mathlib.Core.Path.{◌≡◌, refl, sym, ap, ◌∙◌}
use mathlib.Core.Bool.{Bool, true, false, ◌&&◌}
use mathlib.Core.List.{List, [], ◌∷◌, ◌++◌}
use lib.Dec.{ltb}
use lib.ListN.{length, drop}
use Rattle.refusal.specs.Table.{Rule, ◌when◌, Answer, granted, ◌or_else◌, ◌otherwise◌, passing}
use Rattle.handle.specs.Bits.{bits_of}
use Rattle.id_tables.specs.Ids.{room, damaged, any_damaged}
use Rattle.id_tables.specs.Ids.{entry as idsEntry}
use Rattle.ids.specs.Reserve as one
use Rattle.ids.proofs.Refusing as ids
use Rattle.id_tables.specs.Head.{free_of}
use Rattle.id_tables.proofs.Meaning.{ok_passes}
use Rattle.id_batches.specs.Freelist.{free_ones, listing}
use Rattle.id_batches.specs.Reserve as many
use Rattle.id_batches.proofs.Granted as batch
use Rattle.id_batches.proofs.Refusing as batches
use Rattle.store_tables.specs.Store.{Store, with_ids}
use Rattle.store_tables.specs.Kept.{Entered}
use Rattle.store_tables.proofs.Passing.{entry_line}
use Rattle.store_reserve.specs.Reserve.{within, reserving, with_output, reserving_many, listing_free}

-- what follows the lines, as part of something larger
within_lines : {A S T : Type 0} (whole : S → T) (rules : List Rule) (v : A) (s : S)
    → within whole (rules otherwise (v, s)) ≡ (rules otherwise (v, whole s))
unfolding ◌or_else◌
within_lines whole [] v s = refl
within_lines whole (n when true ∷ rest) v s = refl
within_lines whole (n when false ∷ rest) v s = within_lines whole rest v s

-- a line that is tested twice
twice : {A : Type 0} (b c : Bool) (v : A) → (13 when b ∷ [] or_else (13 when b ∷ 4 when c ∷ [] otherwise v)) ≡ (13 when b ∷ 4 when c ∷ [] otherwise v)
unfolding ◌or_else◌
twice true c v = refl
twice false c v = refl

once : {A : Type 0} (b : Bool) (v : A) → (13 when b ∷ [] or_else (13 when b ∷ [] otherwise v)) ≡ (13 when b ∷ [] otherwise v)
unfolding ◌or_else◌
once true v = refl
once false v = refl

module _ (s : Store) (e : Entered s) where
  ids_pass : granted tt ≡ passing (idsEntry s.ids false)
  ids_pass = sym (ok_passes s.ids e.ids)

  pub reserving_lines : (one.has_free s.ids && damaged s.ids (one.last_free s.ids)) ≡ false
      → reserving s
      ≡ (4 when ltb (room s.ids) 1 ∷ [] otherwise (bits_of (one.reserved_generation s.ids) (one.reserved_number s.ids), with_ids s (one.reserved_ids s.ids)))
  unfolding reserving ◌or_else◌
  reserving_lines w =
      entry_line s e false (within (with_ids s) (one.reserving s.ids))
      ∙ ap (within (with_ids s)) (ids.reserving_lines s.ids ids_pass w)
      ∙ within_lines (with_ids s) (4 when ltb (room s.ids) 1 ∷ []) _ _

  pub reserving_many_lines : (n : ℕ) (out : List ℕ) → any_damaged s.ids (many.recycled s.ids n) ≡ false
      → reserving_many s n out
      ≡ (13 when ltb (length out) n
      ∷ 4 when ltb (room s.ids) n
      ∷ []
      otherwise (tt, (with_ids s (batch.fallen_ids s.ids n), many.handles s.ids n ++ drop n out)))
  unfolding reserving_many
  reserving_many_lines n out w =
      entry_line s e (ltb (length out) n) (within (with_output s) (many.reserving s.ids n out))
      ∙ ap (λ (a : Answer (Unit {0} × (Store × List ℕ))). 13 when ltb (length out) n ∷ [] or_else a)
      (ap (within (with_output s)) (batches.reserving_lines s.ids ids_pass n out w) ∙ within_lines (with_output s) (13 when ltb (length out) n ∷ 4 when ltb (room s.ids) n ∷ []) _ _)
      ∙ twice (ltb (length out) n) (ltb (room s.ids) n) _

  pub listing_free_lines : (out : List ℕ) → any_damaged s.ids (free_ones s.ids) ≡ false
      → listing_free s out
      ≡ (13 when ltb (length out) (free_of s.ids.head.cursor) ∷ []
      otherwise (free_of s.ids.head.cursor, many.old_handles s.ids.generations (free_ones s.ids) ++ drop (free_of s.ids.head.cursor) out))
  unfolding listing_free
  listing_free_lines out w =
      entry_line s e (ltb (length out) (free_of s.ids.head.cursor)) (listing s.ids out)
      ∙ ap (λ (a : Answer (ℕ × List ℕ)). 13 when ltb (length out) (free_of s.ids.head.cursor) ∷ [] or_else a) (batches.listing_lines s.ids ids_pass out w)
      ∙ once (ltb (length out) (free_of s.ids.head.cursor)) _
