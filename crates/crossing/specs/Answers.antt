-- An answer as a number and four more: the refusal's number, 0 where the call is granted, and what is granted, then zeros.
use Rattle.std.specs.Prelude.{ℕ, Bool, cond, ◌≡◌, List, [], ◌∷◌, Option, Some, None}
use Rattle.std.proofs.Math.Option.{Option as Maybe, none, some}
use Rattle.refusal.specs.Table.{Answer, granted, refused, value_of, left_of}
use Rattle.handle.specs.declared.Number.{Number}
use Rattle.handle.specs.declared.Place.{Place}

abbrev pub four : ℕ → ℕ → ℕ → ℕ → List ℕ
four a b c d = a ∷ b ∷ c ∷ d ∷ []

-- what is granted, as four numbers
abbrev pub number_four : ℕ → List ℕ
number_four n = four n 0 0 0

abbrev pub yes_four : Bool → List ℕ
yes_four b = four (cond b 1 0) 0 0 0

abbrev pub place_four : Place → List ℕ
place_four p = four p.archetype p.index.0 0 0

abbrev pub part_four : ℕ × ℕ → List ℕ
part_four p = four p.0 p.1 0 0

-- 0, or 1 and what there is
abbrev pub maybe_four : Maybe ℕ → List ℕ
maybe_four none = four 0 0 0 0
maybe_four (some n) = four 1 n 0 0

abbrev pub old_place_four : Maybe Place → List ℕ
old_place_four none = four 0 0 0 0
old_place_four (some p) = four 1 p.archetype p.index.0 0

-- the same of the program's options
abbrev pub maybe_number_four : Option Number → List ℕ
maybe_number_four None = four 0 0 0 0
maybe_number_four (Some n) = four 1 n.0 0 0

abbrev pub maybe_place_four : Option Place → List ℕ
maybe_place_four None = four 0 0 0 0
maybe_place_four (Some p) = four 1 p.archetype p.index.0 0

abbrev pub code_of : {A : Type 0} → Answer A → ℕ
code_of (granted v) = 0
code_of (refused n) = n

abbrev pub numbers_of : {A : Type 0} → (A → List ℕ) → Answer A → List ℕ
numbers_of values (granted v) = values v
numbers_of values (refused n) = four 0 0 0 0

-- an answer has crossed as this number and these four
pub record Told {A : Type 0} (values : A → List ℕ) (answer : Answer A) (code : ℕ) (out : List ℕ) : Type 0 where
  pub code_is : code ≡ code_of answer
  pub out_is : out ≡ numbers_of values answer

-- What a call with values promises across: its rule's answer, and what the rule leaves of what is lent.
pub record Crossed {A S : Type 0} (values : A → List ℕ) (rule : Answer (A × S)) (lent : S) (code : ℕ) (out : List ℕ) (left : S) : Type 0 where
  pub told : Told values (value_of rule) code out
  pub leaves : left ≡ left_of rule lent

-- and a call that answers nothing but its refusal
pub record Passed {A S : Type 0} (rule : Answer (A × S)) (lent : S) (code : ℕ) (left : S) : Type 0 where
  pub code_is : code ≡ code_of (value_of rule)
  pub leaves : left ≡ left_of rule lent
