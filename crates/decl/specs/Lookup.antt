-- Type lookup: the column of a type, by a binary search over ascending types.
use Rattle.std.specs.Prelude.{ℕ, zero, suc, ◌+◌, ◌-◌, ◌/◌, cond, List, [], ◌∷◌, ◌++◌, leb, ltb, eqb, length, get_or, Option, Some, None}
use Rattle.refusal.specs.Table.{Answer, granted, refused, ◌when◌, ◌or_else◌}
use Rattle.decl.specs.Decl.{Decl, archetypes, types_of}
use Rattle.decl.specs.Rules.{decl_rules}

abbrev pub one_on : Option ℕ → Option ℕ
one_on (Some j) = Some (j + 1)
one_on None = None

-- where type t stands in xs
unfoldable pub column_of : List ℕ → ℕ → Option ℕ
column_of [] t = None
column_of (x ∷ xs) t = cond (eqb x t) (Some 0) (one_on (column_of xs t))

abbrev pub middle : ℕ → ℕ → ℕ
middle lo hi = lo + (hi - lo) / 2

-- what a binary search finds from lo up to, not including, hi, in at most n steps
unfoldable pub sought : ℕ → List ℕ → ℕ → ℕ → ℕ → Option ℕ
sought zero xs t lo hi = None
sought (suc n) xs t lo hi =
    cond (leb hi lo) None
    (cond (eqb (get_or xs (middle lo hi) 0) t) (Some (middle lo hi))
    (cond (ltb (get_or xs (middle lo hi) 0) t) (sought n xs t (middle lo hi + 1) hi) (sought n xs t lo (middle lo hi))))

-- what it finds in the whole of xs, ascending or not; of ascending xs, `column_of xs t` (proofs, Search)
unfoldable pub searched : List ℕ → ℕ → Option ℕ
searched xs t = sought (length xs) xs t 0 (length xs)

-- the column, or 15
abbrev pub held : Option ℕ → Answer ℕ
held (Some j) = granted j
held None = refused 15

-- Type lookup: the column within the archetype
unfoldable pub looked_up : Decl → ℕ → ℕ → Answer ℕ
looked_up d a t = decl_rules d ++ (6 when leb (archetypes d) a ∷ []) or_else held (column_of (types_of d a) t)
