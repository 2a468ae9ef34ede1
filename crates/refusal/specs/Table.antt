-- What a call answers, how its refusals are listed, and what it promises of everything lent to it.
use Prim.{Unit, tt}
use Rattle.std.specs.Prelude.{ℕ, Bool, true, false, ◌≡◌, List, [], ◌∷◌, Result, Ok, Err}
use Rattle.refusal.specs.Number.{number_of}
use Rattle.refusal.specs.declared.Refusal.{Refusal}

infix 68 ◌when◌
infixr 20 ◌otherwise◌ ◌or_else◌
-- a line of document 01's table: this number is given when this holds
pub data Rule : Type 0 where
  ◌when◌ : ℕ → Bool → Rule

-- a value, or a refusal's number
pub data Answer (A : Type 0) : Type 0 where
  granted : A → Answer A
  refused : ℕ → Answer A

-- the number of the first rule that applies, or the answer a where none does
unfoldable pub ◌or_else◌ : {A : Type 0} → List Rule → Answer A → Answer A
[] or_else a = a
(n when true ∷ rest) or_else a = refused n
(n when false ∷ rest) or_else a = rest or_else a

-- the same, where the answer is a value
abbrev pub ◌otherwise◌ : {A : Type 0} → List Rule → A → Answer A
rules otherwise v = rules or_else granted v

-- what a run of tests is to say of these rules
abbrev pub passing : List Rule → Answer (Unit {0})
passing rules = rules otherwise tt

-- the document's number and values of what a call returns: here the values are what is returned
abbrev pub answer_of : {A : Type 0} → Result A Refusal → Answer A
answer_of (Ok v) = granted v
answer_of (Err r) = refused (number_of r)

-- and here they are made of it
abbrev pub answer_by : {R A : Type 0} → (R → A) → Result R Refusal → Answer A
answer_by values (Ok v) = granted (values v)
answer_by values (Err r) = refused (number_of r)

-- A call that changes what it is lent: its rule grants a value and what is left, or refuses.
abbrev pub value_of : {A S : Type 0} → Answer (A × S) → Answer A
value_of (granted x) = granted x.0
value_of (refused n) = refused n

-- a refusal changes nothing
abbrev pub left_of : {A S : Type 0} → Answer (A × S) → S → S
left_of (granted x) lent = x.1
left_of (refused n) lent = lent

-- what such a call promises, of what it is lent, its answer and what it leaves
pub record Did {A S : Type 0} (rule : Answer (A × S)) (lent : S) (said : Answer A) (left : S) : Type 0 where
  pub answer : said ≡ value_of rule
  pub leaves : left ≡ left_of rule lent
