-- Reserve one number, n at once, and the free list, over the whole store: what the id layer says, whose first tests are among those of the store.
use Prim.{Unit}
use Rattle.std.specs.Prelude.{ℕ, false, List, ltb, length}
use Rattle.refusal.specs.Table.{Answer, granted, refused, ◌or_else◌}
use Rattle.id_tables.specs.Head.{free_of}
use Rattle.id_tables.specs.Ids.{Ids}
use Rattle.ids.specs.Reserve as one
use Rattle.id_batches.specs.Reserve as many
use Rattle.id_batches.specs.Freelist.{listing}
use Rattle.store_tables.specs.Store.{Store, with_ids, entry}

-- what a rule leaves, as part of something larger
abbrev pub within : {A S T : Type 0} → (S → T) → Answer (A × S) → Answer (A × T)
within whole (granted x) = granted (x.0, whole x.1)
within whole (refused n) = refused n

-- Reserve one. Reserving looks at no rows and no words.
unfoldable pub reserving : Store → Answer (ℕ × Store)
reserving s = entry s false or_else within (with_ids s) (one.reserving s.ids)

-- Reserve n at once. 13: an output too short for n handles
abbrev pub with_output : Store → Ids × List ℕ → Store × List ℕ
with_output s left = (with_ids s left.0, left.1)

unfoldable pub reserving_many : Store → ℕ → List ℕ → Answer (Unit {0} × (Store × List ℕ))
reserving_many s n out = entry s (ltb (length out) n) or_else within (with_output s) (many.reserving s.ids n out)

-- The free list, into an output; the store stays. 13: an output shorter than max(cursor, 0)
unfoldable pub listing_free : Store → List ℕ → Answer (ℕ × List ℕ)
listing_free s out = entry s (ltb (length out) (free_of s.ids.head.cursor)) or_else listing s.ids out
