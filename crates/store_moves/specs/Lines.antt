-- The target of an insert or a remove as an archetype or none, for the lines that say when a call refuses.
use Rattle.std.specs.Prelude.{ℕ, Bool, true, false, leb, Some, None}
use Rattle.std.specs.Prelude as prelude
use Rattle.std.proofs.Math.Option.{Option, none, some}
use Rattle.decl.specs.Decl.{rows_of, types_of}
use Rattle.row_step.specs.Tables.{count_of}
use Rattle.store_tables.specs.Store.{Store}
use Rattle.store_tables.specs.Rows.{archetype_of}
use Rattle.store_moves.specs.Target.{with_type, without_type, target_of}

-- the archetype of number n's row with the type added, and with a column's type taken
abbrev pub grown_into : Store → ℕ → ℕ → Option ℕ
grown_into s n t = target_of s.decl (with_type t (types_of s.decl (archetype_of s n)))

abbrev pub shrunk_into : Store → ℕ → prelude.Option ℕ → Option ℕ
shrunk_into s n (Some j) = target_of s.decl (without_type j (types_of s.decl (archetype_of s n)))
shrunk_into s n None = none

-- no target
abbrev pub is_none : Option ℕ → Bool
is_none none = true
is_none (some b) = false

-- no row of the target is unused
abbrev pub is_full : Store → Option ℕ → Bool
is_full s none = false
is_full s (some b) = leb (rows_of s.decl b) (count_of s.rows b)
