-- The contracts determine the result and what is left of everything lent: no second result fits. One instance a function, under its name.
-- Assumes nothing.
use Rattle.std.specs.Prelude.{ℕ, ◌≡◌, List, Result}
use Rattle.std.proofs.Common.{sym, ◌∙◌}
use Rattle.refusal.specs.Table.{answer_of}
use Rattle.refusal.specs.declared.Refusal.{Refusal}
use Rattle.id_tables.specs.declared.head.Head.{Head}
use Rattle.crossing.specs.Words.{head_of}
use Rattle.crossing.specs.Answers.{code_of}
use Rattle.crossing.proofs.Sole.{Four, heads_one, Only, only}

pub head_of_lem : (ws : List ℕ) (r s : Head) → r ≡ head_of ws → s ≡ head_of ws → r ≡ s
head_of_lem ws r s d e = d ∙ sym e

pub put_head : (h : Head) (ws ws' : List ℕ) → Four ws → Four ws' → head_of ws ≡ h → head_of ws' ≡ h → ws ≡ ws'
put_head h ws ws' f f' d e = heads_one f f' (d ∙ sym e)

-- of what crosses, for each type that has numbers
pub four : {T : Type 0} (numbers : T → List ℕ) (granted : T) (r s : List ℕ) → r ≡ numbers granted → s ≡ numbers granted → r ≡ s
four numbers granted r s d e = d ∙ sym e

pub cross : {T : Type 0} (numbers : T → List ℕ) (answer : Result T Refusal) → Only numbers (answer_of answer)
cross numbers answer = only numbers (answer_of answer)

pub code : (answer : Result (Unit {0}) Refusal) (c c' : ℕ) → c ≡ code_of (answer_of answer) → c' ≡ code_of (answer_of answer) → c ≡ c'
code answer c c' d e = d ∙ sym e
