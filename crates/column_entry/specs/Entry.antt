-- What a column call is lent must be, and what a row that it names must be.
use Rattle.std.specs.Prelude.{ℕ, Bool, false, not, cond, List, [], ◌∷◌, ◌++◌, leb, ltb, eqb, length, get_or}
use Rattle.refusal.specs.Table.{Rule, ◌when◌, Answer, granted, refused}
use Rattle.decl.specs.Lists.{any_below}
use Rattle.decl.specs.Decl.{Decl, archetypes, first_row, rows_of}
use Rattle.decl.specs.Rules.{decl_rules}
use Rattle.decl.specs.Places.{base_of, spanned}
use Rattle.decl.specs.declared.Span.{Span}
use Rattle.row_step.specs.declared.Block.{Block}
use Rattle.row_step.specs.Tables.{Rows, block_of}

-- an archetype's part of each table, all 0 where there is none
abbrev pub span_or : Answer Span → Span
span_or (granted s) = s
span_or (refused n) = record { row = 0; rows = 0; column = 0; columns = 0; base = 0; bytes = 0 }

unfoldable pub span_in : Decl → ℕ → Span
span_in d a = span_or (spanned d a)

-- Row numbers: one a row of every archetype. Row counts: one an archetype. Bytes: those of all columns.
unfoldable pub lengths_for : ℕ → ℕ → ℕ → ℕ → ℕ → ℕ → List Rule
lengths_for rows archetypes size numbers counts bytes =
    13 when not (eqb numbers rows) ∷ 13 when not (eqb counts archetypes) ∷ 13 when not (eqb bytes size) ∷ []

unfoldable pub length_rules : Decl → Rows → List Rule
length_rules d w =
    lengths_for (first_row d (archetypes d)) (archetypes d) (base_of d (archetypes d)) (length w.numbers) (length w.counts) (length w.bytes)

-- 12, then 13
unfoldable pub table_rules : Decl → Rows → List Rule
table_rules d w = decl_rules d ++ length_rules d w

-- 1: a row count above its rows
unfoldable pub is_over : List ℕ → List ℕ → ℕ → Bool
is_over rows counts a = ltb (get_or rows a 0) (get_or counts a 0)

unfoldable pub count_rules : List ℕ → List ℕ → List Rule
count_rules rows counts = 1 when any_below (length rows) (is_over rows counts) ∷ []

-- what every call tests first
unfoldable pub entry_rules : Decl → Rows → List Rule
entry_rules d w = table_rules d w ++ count_rules d.rows w.counts

-- 6: an archetype that is declared, and a row below its row count
unfoldable pub row_rules : List ℕ → List ℕ → ℕ → ℕ → List Rule
row_rules rows counts a r = 6 when leb (length rows) a ∷ 6 when leb (get_or counts a 0) r ∷ []

-- a type that is declared, of another size
unfoldable pub wrong_size : List ℕ → List ℕ → ℕ → ℕ → Bool
wrong_size [] sizes t n = false
wrong_size (x ∷ types) [] t n = false
wrong_size (x ∷ types) (s ∷ sizes) t n = cond (eqb x t) (not (eqb s n)) (wrong_size types sizes t n)

-- archetype a's part of the row tables
abbrev pub block_in : Decl → ℕ → Block
block_in d a = block_of (first_row d a) (rows_of d a) (base_of d a)
