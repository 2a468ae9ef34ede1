-- The contracts determine the result and what is left: no second result fits. One instance a function, under its name.
-- Assumes nothing.
use Rattle.std.proofs.Common.{ℕ, ◌%◌, ◌^◌, min, ◌≡◌, sym, ◌∙◌, List, get_or, take, drop, fold, replicate}
use Rattle.replay_line.specs.Text.{read_from}
use Rattle.replay_line.specs.Lines.{line_at, next_at}
use Rattle.replay_line.specs.Tables.{filled, mixed, mixed_word, mixed_low}

-- one value meets an equation with a rule
abbrev One : {A : Type 0} → A → Type 0
One {A} rule = (r s : A) → r ≡ rule → s ≡ rule → r ≡ s

one : {A : Type 0} (rule : A) → One rule
one rule r s d e = d ∙ sym e

pub low : (number : ℕ) → One (number % 2 ^ 32)
low number = one _

pub number : (list : List ℕ) (at : ℕ) → One (get_or list at 0)
number list at = one _

pub least : (told length : ℕ) → One (min told length)
least told length = one _

pub part : (list : List ℕ) (at count : ℕ) → One (take count (drop at list))
part list at count = one _

pub line : (list : List ℕ) (at : ℕ) → One (line_at list at)
line list at = one _

pub next : (list : List ℕ) (at : ℕ) → One (next_at list at)
next list at = one _

-- for each type of value and of table
pub keep : {V T : Type 0} (keeps : V → T) (value : V) → One (keeps value)
keep keeps value = one _

pub fill : {V T : Type 0} (keeps : V → T) (table : List T) (values : List V) → One (filled keeps table values)
fill keeps table values = one _

pub table : {T : Type 0} (keeps : ℕ → T) (n : ℕ) (list : List ℕ) (at : ℕ) → One (filled keeps (replicate n (keeps 0)) (take n (drop at list)))
table keeps n list at = one _

pub digest_words : (digest : ℕ) (table : List ℕ) → One (fold mixed_word digest table)
digest_words digest table = one _

pub digest_low : (digest : ℕ) (table : List ℕ) → One (fold mixed_low digest table)
digest_low digest table = one _

pub digest_numbers : (digest : ℕ) (table : List ℕ) → One (fold mixed digest table)
digest_numbers digest table = one _

pub digest_bytes : (digest : ℕ) (table : List ℕ) → One (fold mixed digest table)
digest_bytes digest table = one _

pub numbers : (text out : List ℕ) (r s : ℕ) (left left' : List ℕ) → (r ≡ (read_from text out).count) × (left ≡ (read_from text out).table)
    → (s ≡ (read_from text out).count) × (left' ≡ (read_from text out).table) → (r ≡ s) × (left ≡ left')
numbers text out r s left left' d e = (d.0 ∙ sym e.0, d.1 ∙ sym e.1)
