-- What a step of the state of an alloc many answers, apart from the state.
use Rattle.std.specs.Prelude.{ℕ, Some, None}
use Rattle.std.specs.Prelude.{Option as Perhaps}
use Rattle.std.proofs.Math.Option.{Option, none, some}
use Rattle.handle.specs.declared.Number.{Number}

-- the number, or none after the last
abbrev pub numbered_of : Perhaps Number → Option ℕ
numbered_of (Some n) = some n.0
numbered_of None = none
