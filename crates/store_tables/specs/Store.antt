-- All that a store call is lent, and what every call tests first.
use Rattle.std.specs.Prelude.{ℕ, Bool, not, List, [], ◌∷◌, ◌++◌, eqb, length}
use Rattle.refusal.specs.Table.{Rule, ◌when◌}
use Rattle.id_tables.specs.Head.{head_rules}
use Rattle.id_tables.specs.Ids.{Ids, ids_in, capacity, capacity_rules, length_rules}
use Rattle.decl.specs.Decl.{Decl, decl_in, columns}
use Rattle.row_step.specs.Tables.{Rows, rows_in}
use Rattle.column_entry.specs.Entry.{table_rules, count_rules}
use Rattle.store_tables.specs.declared.StoreTables.{StoreTables}

-- the declaration, the id tables with their head, row numbers, row counts and bytes, and the borrow words
pub record Store : Type 0 where
  pub decl : Decl
  pub ids : Ids
  pub rows : Rows
  pub words : List ℕ

abbrev pub store_of : Decl → Ids → Rows → List ℕ → Store
store_of d i w b = record { decl = d; ids = i; rows = w; words = b }

-- what a view lends
abbrev pub store_in : StoreTables → Store
store_in t = store_of (decl_in t.declaration) (ids_in t.ids) (rows_in t.rows) t.words.now

-- the store with other id tables, other rows, other words
abbrev pub with_ids : Store → Ids → Store
with_ids s i = store_of s.decl i s.rows s.words

abbrev pub with_rows : Store → Rows → Store
with_rows s w = store_of s.decl s.ids w s.words

abbrev pub with_words : Store → List ℕ → Store
with_words s b = store_of s.decl s.ids s.rows b

-- 13: the three other id tables as long as the capacity, one word a column, and `short`, a value or an output of a wrong length
unfoldable pub lent_rules : ℕ → ℕ → ℕ → ℕ → ℕ → ℕ → Bool → List Rule
lent_rules capacity archetypes indices pending columns words short =
    length_rules capacity archetypes indices pending ++ 13 when not (eqb words columns) ∷ 13 when short ∷ []

-- What every call tests first: 12 for the capacity and the declaration, 13 for every length, 1 for the head and the row counts.
unfoldable pub entry : Store → Bool → List Rule
entry s short =
    capacity_rules (capacity s.ids)
    ++ (table_rules s.decl s.rows
    ++ (lent_rules (capacity s.ids) (length s.ids.archetypes) (length s.ids.indices) (length s.ids.pending) (columns s.decl) (length s.words) short
    ++ (head_rules s.ids.head (capacity s.ids)
    ++ count_rules s.decl.rows s.rows.counts)))
