-- Entries of a table that are set one after the other.
use Rattle.std.specs.Prelude.{ℕ, ◌+◌, List, [], ◌∷◌, length, set, replicate, ⊤}
use Rattle.id_tables.specs.declared.head.Head.{Head}
use Rattle.id_tables.specs.Ids.{Ids, ids_of}
use Rattle.id_tables.specs.Runs.{up_from}

-- each of these entries is set to its value: the later one stays where an entry is named twice
unfoldable pub set_each : List ℕ → List ℕ → List ℕ → List ℕ
set_each table [] values = table
set_each table (n ∷ ns) [] = table
set_each table (n ∷ ns) (v ∷ vs) = set_each (set table n v) ns vs

-- all to one value
abbrev pub set_all : List ℕ → List ℕ → ℕ → List ℕ
set_all table ns v = set_each table ns (replicate (length ns) v)

-- to successive rows
abbrev pub set_rows : List ℕ → List ℕ → ℕ → List ℕ
set_rows table ns first = set_each table ns (up_from first (length ns))

-- the tables with these numbers at successive rows of an archetype, the new ones among them at generation 1
abbrev pub seated : Ids → Head → List ℕ → List ℕ → ℕ → ℕ → Ids
seated s head new numbers archetype first =
    ids_of head (set_all s.generations new 1) (set_all s.archetypes numbers archetype) (set_rows s.indices numbers first) s.pending

-- each of these, the first of which stands at position k, is one that P allows there
unfoldable pub Written : {A : Type 0} → (ℕ → A → Type 0) → ℕ → List A → Type 0
Written P k [] = ⊤
Written P k (x ∷ xs) = P k x × Written P (k + 1) xs
