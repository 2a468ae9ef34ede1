-- Whether a lookup found a column.
use Rattle.std.specs.Prelude.{ℕ, Bool, true, false, Option, Some, None}

-- the type is not among the columns
abbrev pub is_missing : Option ℕ → Bool
is_missing (Some j) = false
is_missing None = true
