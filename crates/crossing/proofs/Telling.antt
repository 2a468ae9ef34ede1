-- An answer that has crossed, from what it is.
-- Assumes nothing.
use Rattle.std.specs.Prelude.{ℕ, ◌≡◌, List, Result, Ok, Err}
use Rattle.std.proofs.Common.{◌∙◌}
use Rattle.refusal.specs.declared.Refusal.{Refusal}
use Rattle.refusal.specs.Table.{Answer, Did, answer_of, answer_by}
use Rattle.crossing.specs.Answers.{Told, Crossed, Passed, code_of}

-- what is granted, told by the values that are made of it
pub told_by : {R A : Type 0} {four : R → List ℕ} {numbers : A → List ℕ} {code : ℕ} {out : List ℕ} (values : R → A) → ((v : R) → four v ≡ numbers (values v))
    → (r : Result R Refusal) → Told four (answer_of r) code out → Told numbers (answer_by values r) code out
told_by values same (Ok v) t = record { code_is = t.code_is; out_is = t.out_is ∙ same v }
told_by values same (Err r) t = record { code_is = t.code_is; out_is = t.out_is }

module _ {A S : Type 0} {rule : Answer (A × S)} {lent left : S} {said : Answer A} {code : ℕ} where
  -- a call that did what its rule says, and whose answer has crossed
  pub crossed : {values : A → List ℕ} {out : List ℕ} → Did rule lent said left → Told values said code out → Crossed values rule lent code out left
  crossed d t = record { told = rw (← d.answer) t; leaves = d.leaves }

  pub passed : Did rule lent said left → code ≡ code_of said → Passed rule lent code left
  passed d e = record { code_is = rw (← d.answer) e; leaves = d.leaves }

-- an answer of a call that changes nothing
pub retold : {A : Type 0} {values : A → List ℕ} {said answer : Answer A} {code : ℕ} {out : List ℕ} → said ≡ answer → Told values said code out → Told values answer code out
retold e t = rw (← e) t
