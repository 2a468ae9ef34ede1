-- Where archetypes, columns and cells stand in the byte buffer, and the part of each table that is an archetype's.
use Rattle.std.specs.Prelude.{ℕ, zero, suc, ◌+◌, ◌*◌, Bool, ◌||◌, [], ◌∷◌, ltb, length, take}
use Rattle.refusal.specs.Table.{Answer, ◌when◌, ◌otherwise◌}
use Rattle.decl.specs.Limits.{max_archetypes, max_columns, max_rows}
use Rattle.decl.specs.Lists.{sum, any_below}
use Rattle.decl.specs.Decl.{Decl, archetypes, rows_of, width_of, first_row, first_column, sizes_of, size_of}
use Rattle.decl.specs.Rules.{decl_rules}
use Rattle.decl.specs.declared.Span.{Span}
use Rattle.decl.specs.declared.Totals.{Totals}

-- bytes of a row of archetype a
unfoldable pub row_width : Decl → ℕ → ℕ
row_width d a = sum (sizes_of d a)

-- where archetype a's bytes begin: archetypes follow each other; at the number of archetypes, the buffer's length
unfoldable pub base_of : Decl → ℕ → ℕ
base_of d zero = 0
base_of d (suc a) = base_of d a + rows_of d a * row_width d a

-- where column j of archetype a begins: after rows × size for each column before it
unfoldable pub column_start : Decl → ℕ → ℕ → ℕ
column_start d a j = base_of d a + rows_of d a * sum (take j (sizes_of d a))

-- where row r of that column begins
unfoldable pub cell_start : Decl → ℕ → ℕ → ℕ → ℕ
cell_start d a j r = column_start d a j + r * size_of d a j

-- the part of each table that is archetype a's
abbrev pub span_of : Decl → ℕ → Span
span_of d a =
    record {
      row = first_row d a;
      rows = rows_of d a;
      column = first_column d a;
      columns = width_of d a;
      base = base_of d a;
      bytes = row_width d a;
    }

-- more rows or columns than an archetype may have, or columns, from `first` on, past the sizes of all
unfoldable pub too_large : ℕ → ℕ → ℕ → ℕ → Bool
too_large rows columns first all = ltb max_columns columns || (ltb max_rows rows || ltb all (first + columns))

abbrev pub outgrown : Decl → ℕ → Bool
outgrown d a = too_large (rows_of d a) (width_of d a) (first_column d a) (length d.sizes)

-- Span: of an archetype, or, at their number, what all of them take. Of the declaration only what is summed is tested;
-- one that keeps the rules passes (proofs, Lending).
unfoldable pub spanned : Decl → ℕ → Answer Span
spanned d a =
    6 when ltb (archetypes d) a
    ∷ 12 when ltb max_archetypes a
    ∷ 12 when any_below (suc a) (outgrown d)
    ∷ [] otherwise span_of d a

-- what all archetypes take: their rows and their bytes
abbrev pub totals_of : Decl → Totals
totals_of d = record { rows = first_row d (archetypes d); bytes = base_of d (archetypes d) }

-- Totals: of a declaration that keeps the rules
unfoldable pub measured : Decl → Answer Totals
measured d = decl_rules d otherwise totals_of d
