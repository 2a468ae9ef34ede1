-- A refusal that `?` hands up, as what a call promises.
-- Assumes nothing.
use mathlib.Core.Path.{◌≡◌, refl}
use Rattle.std.specs.Prelude.{Result}
use Rattle.std.specs.Result.{IsErrAnd}
use Rattle.refusal.specs.Number.{number_of}
use Rattle.refusal.specs.declared.Refusal.{Refusal}
use Rattle.refusal.specs.Table.{Answer, refused, answer_of, answer_by, Did}
use Rattle.refusal.specs.Laws.{refuse, handed_up, handed_up_by}

module _ {A S : Type 0} {rule : Answer (A × S)} {lent : S} where
  pub hands_on : {left : S} (r : Result A Refusal) (e : Refusal) → IsErrAnd r (λ x. x ≡ e) → Did rule lent (refused (number_of e)) left → Did rule lent (answer_of r) left
  hands_on r e h d = let said : answer_of r ≡ refused (number_of e) = handed_up r e h refl in rw said d

  pub hands_up : (r : Result A Refusal) (e : Refusal) → IsErrAnd r (λ x. x ≡ e) → rule ≡ refused (number_of e) → Did rule lent (answer_of r) lent
  hands_up r e h k = hands_on r e h (refuse k)

  module _ {R : Type 0} (values : R → A) where
    pub hands_on_by : {left : S} (r : Result R Refusal) (e : Refusal) → IsErrAnd r (λ x. x ≡ e) → Did rule lent (refused (number_of e)) left → Did rule lent (answer_by values r) left
    hands_on_by r e h d = let said : answer_by values r ≡ refused (number_of e) = handed_up_by values r e h refl in rw said d

    pub hands_up_by : (r : Result R Refusal) (e : Refusal) → IsErrAnd r (λ x. x ≡ e) → rule ≡ refused (number_of e) → Did rule lent (answer_by values r) lent
    hands_up_by r e h k = hands_on_by r e h (refuse k)
