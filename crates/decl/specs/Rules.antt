-- What a declaration must keep: refusal 12.
use Rattle.std.specs.Prelude.{ℕ, Bool, not, ◌&&◌, List, [], ◌∷◌, ◌++◌, ltb, eqb, length, get_or}
use Rattle.refusal.specs.Table.{Rule, ◌when◌}
use Rattle.decl.specs.Limits.{max_archetypes, max_columns, max_size, max_rows}
use Rattle.decl.specs.Lists.{any_above, rising, same, any_below, any_pair}
use Rattle.decl.specs.Decl.{Decl, archetypes, width_of, columns, types_of, sizes_of}

-- Lengths and counts: what says where each part stands.
unfoldable pub shape_rules : Decl → List Rule
shape_rules d =
    12 when eqb (archetypes d) 0
    ∷ 12 when ltb max_archetypes (archetypes d)
    ∷ 12 when not (eqb (length d.widths) (archetypes d))
    ∷ 12 when not (eqb (width_of d 0) 0)
    ∷ 12 when any_above max_columns d.widths
    ∷ 12 when any_above max_rows d.rows
    ∷ 12 when not (eqb (length d.types) (columns d))
    ∷ 12 when not (eqb (length d.sizes) (columns d))
    ∷ []

-- columns of types xs and sizes ss, and columns of types ys and sizes ts, have a type in common, with two sizes
unfoldable pub two_sizes : List ℕ → List ℕ → List ℕ → List ℕ → Bool
two_sizes xs ss ys ts =
    any_below (length xs)
    (λ j. any_below (length ys) (λ k. eqb (get_or xs j 0) (get_or ys k 0) && not (eqb (get_or ss j 0) (get_or ts k 0))))

-- of archetypes a and b
abbrev pub same_types : Decl → ℕ → ℕ → Bool
same_types d a b = same (types_of d a) (types_of d b)

abbrev pub sizes_differ : Decl → ℕ → ℕ → Bool
sizes_differ d a b = two_sizes (types_of d a) (sizes_of d a) (types_of d b) (sizes_of d b)

-- Types and sizes: ascending within an archetype, no two archetypes with the same types, one size a type.
unfoldable pub column_rules : Decl → List Rule
column_rules d =
    12 when any_above max_size d.sizes
    ∷ 12 when any_below (archetypes d) (λ a. not (rising (types_of d a)))
    ∷ 12 when any_pair (archetypes d) (same_types d)
    ∷ 12 when any_pair (archetypes d) (sizes_differ d)
    ∷ []

unfoldable pub decl_rules : Decl → List Rule
decl_rules d = shape_rules d ++ column_rules d
