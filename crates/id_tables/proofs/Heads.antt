-- A call that changes nothing of the id tables but their head.
-- Assumes nothing.
use Rattle.std.specs.Prelude.{◌≡◌, refl, true, false, List, [], ◌∷◌}
use Rattle.refusal.specs.Table.{Rule, ◌when◌, Answer, granted, refused, ◌or_else◌, left_of}
use Rattle.id_tables.specs.Ids.{Ids, ids_of}
use Rattle.id_tables.specs.Lookup.{clearing}

-- what is left is what was lent, with another head
abbrev pub HeadOnly : Ids → Ids → Type 0
HeadOnly lent left = left ≡ ids_of left.head lent.generations lent.archetypes lent.indices lent.pending

-- what holds of what is lent, and of what the rest leaves of it, holds of what is left past any tests
pub left_past : {A S : Type 0} (P : S → Type 0) (rules : List Rule) (a : Answer (A × S)) (lent : S) → P lent → P (left_of a lent) → P (left_of (rules or_else a) lent)
unfolding ◌or_else◌
left_past P [] a lent p q = q
left_past P (n when true ∷ rest) a lent p q = p
left_past P (n when false ∷ rest) a lent p q = left_past P rest a lent p q

pub cleared_head : (s : Ids) → HeadOnly s (left_of (clearing s) s)
unfolding clearing
cleared_head s = left_past (HeadOnly s) _ _ s refl refl
