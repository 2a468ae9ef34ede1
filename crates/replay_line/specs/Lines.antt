-- A list of numbers as lines, each of which begins with how many numbers follow.
use Rattle.std.specs.Prelude.{ℕ, ◌+◌, min, List, length, get_or, take, drop}

unfoldable pub line_at : List ℕ → ℕ → List ℕ
line_at list at = take (get_or list at 0) (drop (at + 1) list)

-- the position past a line, or the end
unfoldable pub next_at : List ℕ → ℕ → ℕ
next_at list at = min (at + 1 + get_or list at 0) (length list)
