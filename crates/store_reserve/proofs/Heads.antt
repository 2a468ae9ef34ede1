-- A reservation changes nothing of the store but the head.
-- Assumes nothing.
use Rattle.std.specs.Prelude.{ℕ, List, ◌≡◌, refl}
use Rattle.std.proofs.Common.{ap}
use Rattle.refusal.specs.Table.{Answer, granted, refused, left_of}
use Rattle.id_tables.specs.Ids.{ids_of}
use Rattle.id_tables.proofs.Heads.{left_past}
use Rattle.ids.specs.Reserve as one
use Rattle.ids.proofs.Heads as one_law
use Rattle.id_batches.specs.Reserve as many
use Rattle.id_batches.proofs.Heads as many_law
use Rattle.store_tables.specs.Store.{Store, with_ids}
use Rattle.store_reserve.specs.Reserve.{within, with_output, reserving, reserving_many}

-- what is left is what was lent, with another head
abbrev pub StoreHeadOnly : Store → Store → Type 0
StoreHeadOnly lent left = left ≡ with_ids lent (ids_of left.ids.head lent.ids.generations lent.ids.archetypes lent.ids.indices lent.ids.pending)

-- what a rule leaves, as part of something larger
left_within : {A S T : Type 0} (whole : S → T) (a : Answer (A × S)) (s : S) → left_of (within whole a) (whole s) ≡ whole (left_of a s)
left_within whole (granted x) s = refl
left_within whole (refused n) s = refl

pub reserved_head : (s : Store) → StoreHeadOnly s (left_of (reserving s) s)
unfolding reserving
reserved_head s =
    left_past (StoreHeadOnly s) _ _ s refl
    (rw (left_within (with_ids s) (one.reserving s.ids) s.ids) (ap (with_ids s) (one_law.reserved_head s.ids)))

pub reserved_many_head : (s : Store) (n : ℕ) (out : List ℕ) → StoreHeadOnly s (left_of (reserving_many s n out) (s, out)).0
unfolding reserving_many
reserved_many_head s n out =
    left_past (λ (t : Store × List ℕ). StoreHeadOnly s t.0) _ _ (s, out) refl
    (rw (left_within (with_output s) (many.reserving s.ids n out) (s.ids, out)) (ap (with_ids s) (many_law.reserved_head s.ids n out)))
