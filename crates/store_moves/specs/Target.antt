-- The target of an insert or a remove: the archetype whose types are the row's types with that type added or taken.
use Rattle.std.specs.Prelude.{ℕ, suc, cond, List, [], ◌∷◌, ltb, Some, None}
use Rattle.std.specs.Prelude as prelude
use Rattle.std.proofs.Math.Option.{Option, none, some}
use Rattle.decl.specs.Lists.{same}
use Rattle.decl.specs.Decl.{Decl, archetypes, types_of}
use Rattle.store_moves.specs.declared.target.Change.{Change}
use Rattle.store_moves.specs.declared.target.Change.TheVariants.{Added, Taken}
use Rattle.store_moves.specs.Lists.{put_in, taken_out, first_below}

-- how many types come before t, in ascending types
unfoldable pub types_before : ℕ → List ℕ → ℕ
types_before t [] = 0
types_before t (x ∷ xs) = cond (ltb x t) (suc (types_before t xs)) 0

-- ascending types with t added, and with the type of column j taken
abbrev pub with_type : ℕ → List ℕ → List ℕ
with_type t xs = put_in (types_before t xs) (t ∷ []) xs

abbrev pub without_type : ℕ → List ℕ → List ℕ
without_type j xs = taken_out j 1 xs

-- types changed at a place
abbrev pub changed : Change → ℕ → List ℕ → List ℕ
changed (Added t) at xs = put_in at (t ∷ []) xs
changed Taken at xs = taken_out at 1 xs

-- the archetype of just these types: two archetypes never have the same
unfoldable pub target_of : Decl → List ℕ → Option ℕ
target_of d xs = first_below (archetypes d) (λ a. same (types_of d a) xs)

-- the document's value of what the code finds
abbrev pub target_found : prelude.Option ℕ → Option ℕ
target_found (Some a) = some a
target_found None = none
