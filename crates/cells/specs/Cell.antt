-- A run of bytes in the one lent buffer: read, written, copied. What does not fit does nothing.
use Rattle.std.specs.Prelude.{ℕ, ◌+◌, ◌≤◌, Bool, cond, ◌&&◌, ◌||◌, List, [], ◌++◌, ◌⊎◌, leb, length, take, drop}

-- the n bytes at `at`
unfoldable pub cell : List ℕ → ℕ → ℕ → List ℕ
cell b at n = take n (drop at b)

-- b with the bytes vs at `at`
unfoldable pub put : List ℕ → ℕ → List ℕ → List ℕ
put b at vs = take at b ++ vs ++ drop (at + length vs) b

-- the n bytes at `at` end at `end` or before
abbrev pub fits : ℕ → ℕ → ℕ → Bool
fits end at n = leb (at + n) end

-- the n bytes at `from` and the n at `to` lie in a buffer of length len, and have none in common
unfoldable pub copies : ℕ → ℕ → ℕ → ℕ → Bool
copies len from to n = fits len from n && fits len to n && (fits to from n || fits from to n)

-- the same as facts
pub record Copies (len from to n : ℕ) : Type 0 where
  pub source : from + n ≤ len
  pub target : to + n ≤ len
  pub apart : (from + n ≤ to) ⊎ (to + n ≤ from)

-- a write; the part that is read; a copy
unfoldable pub written : List ℕ → ℕ → List ℕ → List ℕ
written b at vs = cond (fits (length b) at (length vs)) (put b at vs) b

unfoldable pub part_of : List ℕ → ℕ → ℕ → List ℕ
part_of b at n = cond (fits (length b) at n) (cell b at n) []

unfoldable pub copied : List ℕ → ℕ → ℕ → ℕ → List ℕ
copied b from to n = cond (copies (length b) from to n) (put b to (cell b from n)) b
