-- Borrow and release of a column, named by archetype and type: 6, then 15, then what the word's rule says.
use Prim.{Unit, tt}
use Rattle.std.specs.Prelude.{ℕ, ◌+◌, false, [], ◌∷◌, leb, get_or, set, Option, Some, None}
use Rattle.refusal.specs.Table.{◌when◌, Answer, granted, refused, ◌or_else◌}
use Rattle.decl.specs.Decl.{Decl, archetypes, first_column, types_of}
use Rattle.decl.specs.Lookup.{column_of}
use Rattle.store_tables.specs.Store.{Store, with_words, entry}
use Rattle.store_reads.specs.Component.{◌and_then◌}

-- the position of a column's word
abbrev pub column_word : Decl → ℕ → Option ℕ → Answer ℕ
column_word d a (Some j) = granted (first_column d a + j)
column_word d a None = refused 15

unfoldable pub word_named : Decl → ℕ → ℕ → Answer ℕ
word_named d a t = 6 when leb (archetypes d) a ∷ [] or_else column_word d a (column_of (types_of d a) t)

unfoldable pub word_asked : Store → ℕ → ℕ → Answer ℕ
word_asked s a t = entry s false or_else word_named s.decl a t

-- the word that is left is stored
abbrev pub word_stored : Store → ℕ → Answer ℕ → Answer (Unit {0} × Store)
word_stored s at (granted w) = granted (tt, with_words s (set s.words at w))
word_stored s at (refused n) = refused n

-- by a rule of a borrow word: shared, unique, released, uniquely released
unfoldable pub holding : (ℕ → Answer ℕ) → Store → ℕ → ℕ → Answer (Unit {0} × Store)
holding rule s a t = word_asked s a t and_then (λ at. word_stored s at (rule (get_or s.words at 0)))
