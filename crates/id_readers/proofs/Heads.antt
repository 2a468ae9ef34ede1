-- A reservation as a span changes nothing of the tables but their head.
-- Assumes nothing.
use Prim.{Unit}
use Rattle.std.specs.Prelude.{ℕ, ◌≡◌, refl}
use Rattle.refusal.specs.Table.{Answer, granted, refused, left_of, Did}
use Rattle.id_tables.specs.Ids.{Ids, ids_of}
use Rattle.id_tables.proofs.Heads.{HeadOnly, left_past}
use Rattle.id_readers.specs.Reader.{part_reserved, reserving_part, reserving_span, span_in, beside}

beside_head : {A : Type 0} (s : Ids) (a : Answer (Unit {0} × Ids)) (v : A) → HeadOnly s (left_of a s) → HeadOnly s (left_of (beside a v) s)
beside_head s (granted x) v h = h
beside_head s (refused n) v h = h

pub spanned_head : (s : Ids) (n : ℕ) → HeadOnly s (left_of (reserving_span s n) s)
unfolding reserving_span reserving_part part_reserved
spanned_head s n = beside_head s (reserving_part s n) (span_in s n) (left_past (HeadOnly s) _ _ s refl (left_past (HeadOnly s) _ _ s refl refl))

-- what such a call leaves, by the head that it leaves
pub head_left : {A : Type 0} {rule : Answer (A × Ids)} {lent left : Ids} {said : Answer A} → HeadOnly lent (left_of rule lent) → Did rule lent said left
    → left ≡ ids_of left.head lent.generations lent.archetypes lent.indices lent.pending
head_left only d = rw d.leaves only
