-- The number that was moved crosses as the document's.
-- Assumes nothing.
use mathlib.Core.Path.{◌≡◌, refl}
use Rattle.std.specs.Prelude.{Option, Some, None}
use Rattle.handle.specs.declared.Number.{Number}
use Rattle.row_step.specs.Tables.{moved_of}
use Rattle.crossing.specs.Answers.{maybe_number_four, maybe_four}

pub same_four : (v : Option Number) → maybe_number_four v ≡ maybe_four (moved_of v)
same_four (Some n) = refl
same_four None = refl
