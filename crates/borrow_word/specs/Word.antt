-- The four rules of a borrow word: the word that each leaves, or the refusal.
use Rattle.std.specs.Prelude.{ℕ, ◌+◌, ◌-◌, ◌/◌, ◌%◌, ◌^◌, Bool, not, [], ◌∷◌, eqb}
use Rattle.refusal.specs.Table.{Answer, ◌when◌, ◌otherwise◌}

-- the top bit is set
abbrev pub is_unique : ℕ → Bool
is_unique w = eqb (w / 2 ^ 63) 1

-- the low 63 bits
abbrev pub count_in : ℕ → ℕ
count_in w = w % 2 ^ 63

-- Shared: + 1
unfoldable pub shared_word : ℕ → Answer ℕ
shared_word w =
    9 when eqb (count_in w) (2 ^ 63 - 1)
    ∷ 7 when is_unique w
    ∷ [] otherwise w + 1

-- Unique: only from 0
unfoldable pub unique_word : ℕ → Answer ℕ
unique_word w = 8 when not (eqb w 0) ∷ [] otherwise 2 ^ 63

-- Release: - 1
unfoldable pub released_word : ℕ → Answer ℕ
released_word w = 10 when eqb w 0 ∷ 11 when is_unique w ∷ [] otherwise w - 1

-- Unique release: clears the top bit only
unfoldable pub unique_released_word : ℕ → Answer ℕ
unique_released_word w = 11 when not (is_unique w) ∷ [] otherwise count_in w
