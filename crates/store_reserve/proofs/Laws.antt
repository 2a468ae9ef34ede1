-- When the store reserves and lists, and what it leaves then, for callers that do not open the rules.
-- Assumes nothing.
use Prim.{Unit, tt}
use Prim.Native.Nat.{ℕ}
use mathlib.Core.Path.{◌≡◌, ap, ◌∙◌}
use mathlib.Core.Bool.{Bool, false}
use mathlib.Core.List.{List, ◌++◌}
use lib.Dec.{ltb}
use lib.ListN.{length, drop}
use borrow.Author.Tests.{le-ltb}
use Rattle.refusal.specs.Table.{granted, passing}
use Rattle.refusal.specs.Laws.{passed_all, past}
use Rattle.handle.specs.Bits.{bits_of}
use Rattle.id_tables.specs.Head.{free_of}
use Rattle.id_tables.specs.Ids.{Ids, EntryOk}
use Rattle.ids.specs.Reserve as one
use Rattle.ids.proofs.Passing.{ReserveOk}
use Rattle.ids.proofs.Laws as ids
use Rattle.id_batches.specs.Reserve as many
use Rattle.id_batches.specs.Freelist.{free_ones}
use Rattle.id_batches.proofs.Granted as batch
use Rattle.store_tables.specs.Store.{Store, with_ids, entry}
use Rattle.store_tables.specs.Kept.{Entered}
use Rattle.store_tables.proofs.Entering.{entered_right}
use Rattle.store_reserve.specs.Reserve.{within, with_output, reserving, reserving_many, listing_free}
use Rattle.store_reserve.proofs.Lifting.{granted_within}

-- the first tests pass, without an output
abbrev pub Passes : Store → Type 0
Passes s = granted tt ≡ passing (entry s false)

-- with an output they pass where it is long enough
module _ (s : Store) (short : Bool) where
  without : granted tt ≡ passing (entry s short) → Passes s
  without e = rw (entered_right s short e) at e

  with_output_lem : Passes s → short ≡ false → granted tt ≡ passing (entry s short)
  with_output_lem e h = rw h e

-- other id tables that keep their rules: the rest is as it was
pub with_ids_entered : (s : Store) (i : Ids) → Entered s → EntryOk i → Entered (with_ids s i)
with_ids_entered s i e ok = record { ids = ok; rows = e.rows; words_long = e.words_long }

-- Reserve one: the id layer grants it
module _ (s : Store) where
  abbrev pub reserved_one : ℕ × Store
  reserved_one = (bits_of (one.reserved_generation s.ids) (one.reserved_number s.ids), with_ids s (one.reserved_ids s.ids))

  pub reserving_at : Passes s → ReserveOk s.ids → reserving s ≡ granted reserved_one
  unfolding reserving
  reserving_at e r = past (entry s false) _ e ∙ ap (within (with_ids s)) (ids.reserving_at s.ids r)

  pub reserving_parts : {x : ℕ × Store} → granted x ≡ reserving s → Passes s × ReserveOk s.ids × (x ≡ reserved_one)
  unfolding reserving
  reserving_parts e =
      let p = passed_all (entry s false) _ e in
      let q = granted_within (with_ids s) (one.reserving s.ids) p.1 in
      let r = ids.reserving_parts s.ids q.1 in
      (p.0, r.0, q.2 ∙ rw r.1)

-- Reserve n at once
module _ (s : Store) (n : ℕ) (out : List ℕ) where
  abbrev pub reserved_many : Unit {0} × (Store × List ℕ)
  reserved_many = (tt, (with_ids s (batch.fallen_ids s.ids n), many.handles s.ids n ++ drop n out))

  pub reserving_many_at : Passes s → batch.ReserveManyOk s.ids n (length out) → reserving_many s n out ≡ granted reserved_many
  unfolding reserving_many
  reserving_many_at e r =
      past (entry s (ltb (length out) n)) _ (with_output_lem s _ e (le-ltb (length out) n r.places_in))
      ∙ ap (within (with_output s)) (batch.reserving_at s.ids n out r)

  pub reserving_many_parts : {x : Unit {0} × (Store × List ℕ)} → granted x ≡ reserving_many s n out → Passes s × batch.ReserveManyOk s.ids n (length out) × (x ≡ reserved_many)
  unfolding reserving_many
  reserving_many_parts e =
      let p = passed_all (entry s (ltb (length out) n)) _ e in
      let q = granted_within (with_output s) (many.reserving s.ids n out) p.1 in
      let r = batch.reserving_parts s.ids n out q.1 in
      (without s _ p.0, r.0, q.2 ∙ rw r.1)

-- the free list
module _ (s : Store) (out : List ℕ) where
  abbrev pub listed_free : ℕ × List ℕ
  listed_free = (free_of s.ids.head.cursor, many.old_handles s.ids.generations (free_ones s.ids) ++ drop (free_of s.ids.head.cursor) out)

  pub listing_free_at : Passes s → batch.ListOk s.ids (length out) → listing_free s out ≡ granted listed_free
  unfolding listing_free
  listing_free_at e r =
      past (entry s (ltb (length out) (free_of s.ids.head.cursor))) _ (with_output_lem s _ e (le-ltb (length out) (free_of s.ids.head.cursor) r.places_in))
      ∙ batch.listing_at s.ids out r

  pub listing_free_parts : {x : ℕ × List ℕ} → granted x ≡ listing_free s out → Passes s × batch.ListOk s.ids (length out) × (x ≡ listed_free)
  unfolding listing_free
  listing_free_parts e =
      let p = passed_all (entry s (ltb (length out) (free_of s.ids.head.cursor))) _ e in
      let r = batch.listing_parts s.ids out p.1 in
      (without s _ p.0, r.0, r.1)
