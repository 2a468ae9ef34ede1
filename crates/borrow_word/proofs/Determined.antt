-- The contracts determine the result and the table that is left: no second result fits. One instance a function, under its name.
-- Assumes nothing.
use Prim.Native.Nat.{ℕ}
use mathlib.Core.Bool.{Bool}
use mathlib.Core.Path.{◌≡◌, sym, ◌∙◌}
use mathlib.Core.List.{List}
use Rattle.refusal.specs.Table.{Answer, Did, answer_of}
use Rattle.refusal.specs.Laws.{sole_answer, sole}
use Rattle.refusal.specs.Distinct.{tells}
use Rattle.refusal.specs.declared.Refusal.{Refusal}
use Rattle.std.specs.Prelude.{Result}
use Rattle.borrow_word.specs.Word.{shared_word, unique_word, released_word, unique_released_word}
use Rattle.borrow_word.specs.Slice.{at_word, any_held}

-- one result for a word
abbrev OneWord : (ℕ → Answer ℕ) → Type 0
OneWord rule = (word : ℕ) (r s : Result ℕ Refusal) → answer_of r ≡ rule word → answer_of s ≡ rule word → r ≡ s

-- one result and one table for a table and a position
abbrev OneAt : (ℕ → Answer ℕ) → Type 0
OneAt rule =
    (words : List ℕ) (at : ℕ) (r s : Result ℕ Refusal) (left left' : List ℕ) → Did (at_word rule words at) words (answer_of r) left
    → Did (at_word rule words at) words (answer_of s) left' → (r ≡ s) × (left ≡ left')

word : (rule : ℕ → Answer ℕ) → OneWord rule
word rule w r s d e = sole_answer answer_of tells r s d e

at : (rule : ℕ → Answer ℕ) → OneAt rule
at rule words p r s left left' d e = sole answer_of tells r s d e

pub shared : OneWord shared_word
shared = word shared_word

pub unique : OneWord unique_word
unique = word unique_word

pub release : OneWord released_word
release = word released_word

pub unique_release : OneWord unique_released_word
unique_release = word unique_released_word

pub shared_at : OneAt shared_word
shared_at = at shared_word

pub unique_at : OneAt unique_word
unique_at = at unique_word

pub release_at : OneAt released_word
release_at = at released_word

pub unique_release_at : OneAt unique_released_word
unique_release_at = at unique_released_word

pub any_held_lem : (words : List ℕ) (r s : Bool) → r ≡ any_held words → s ≡ any_held words → r ≡ s
any_held_lem words r s d e = d ∙ sym e
