-- A rule of a part, read as a rule of the whole: what a call did, and what is granted.
-- Assumes nothing.
use mathlib.Core.Path.{◌≡◌, refl, ap}
use Rattle.refusal.specs.Table.{Answer, granted, refused, Did}
use Rattle.refusal.specs.Laws.{not_refused}
use Rattle.store_reserve.specs.Reserve.{within}

pub did_within : {A S T : Type 0} (whole : S → T) (rule : Answer (A × S)) {lent left : S} {said : Answer A}
    → Did rule lent said left → Did (within whole rule) (whole lent) said (whole left)
did_within whole (granted x) d = record { answer = d.answer; leaves = ap whole d.leaves }
did_within whole (refused n) d = record { answer = d.answer; leaves = ap whole d.leaves }

pub granted_within : {A S T : Type 0} (whole : S → T) (rule : Answer (A × S)) {x : A × T} → granted x ≡ within whole rule
    → (y : A × S) × (granted y ≡ rule) × (x ≡ (y.0, whole y.1))
granted_within whole (granted y) e = (y, refl, cc)
granted_within whole (refused n) e = absurd (not_refused e)
