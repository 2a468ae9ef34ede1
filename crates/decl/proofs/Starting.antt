-- Where the first archetype's columns begin.
-- Assumes nothing.
use mathlib.Core.Path.{◌≡◌}
use Rattle.decl.specs.Decl.{Decl, first_column}
use Rattle.decl.proofs.Lists.{first_none}

pub column_first : (d : Decl) → first_column d 0 ≡ 0
unfolding first_column
column_first d = first_none d.widths
