-- The place that alloc at answers, as its rule has it.
use Rattle.std.specs.Prelude.{Option, Some, None, Result}
use Rattle.std.proofs.Math.Option as rule
use Rattle.refusal.specs.Table.{Answer, answer_by}
use Rattle.refusal.specs.declared.Refusal.{Refusal}
use Rattle.handle.specs.declared.Place.{Place}

abbrev pub place_was : Option Place → rule.Option Place
place_was (Some place) = rule.some place
place_was None = rule.none

-- the place that the chosen number had, or none where it was not live
abbrev pub chosen_of : Result (Option Place) Refusal → Answer (rule.Option Place)
chosen_of = answer_by place_was
