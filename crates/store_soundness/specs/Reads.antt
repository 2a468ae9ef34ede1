-- What a read gives on sound tables, and what each granted call leaves of it: for the handles that the call names, and for every other.
use Rattle.std.specs.Prelude.{Option, Some, None}
use Prim.{tt}
use Rattle.std.specs.Prelude.{ℕ, ◌+◌, ◌<◌, ◌≡◌, true, false, List, ◌++◌, length, get_or, take}
use Rattle.refusal.specs.Table.{Answer, granted, refused}
use Rattle.handle.specs.Bits.{generation_in, number_in}
use Rattle.borrow_word.specs.Word.{is_unique}
use Rattle.id_tables.specs.Lookup.{reserved_old}
use Rattle.id_batches.specs.Reserve.{handles}
use Rattle.id_batches.specs.Flush.{reserved_fresh}
use Rattle.decl.specs.Decl.{first_column, types_of, sizes_of, size_of}
use Rattle.decl.specs.Places.{cell_start}
use Rattle.decl.specs.Lookup.{column_of}
use Rattle.cells.specs.Cell.{cell}
use Rattle.cells.specs.Line.{width}
use Rattle.store_tables.specs.Store.{Store}
use Rattle.store_tables.specs.Rows.{archetype_of, row_of}
use Rattle.store_reads.specs.Component.{◌and_then◌}
use Rattle.store_reads.specs.Read.{reading}
use Rattle.store_reads.specs.Write.{writing}
use Rattle.store_reads.specs.Words.{holding}
use Rattle.store_reads.specs.Lines.{place_in}
use Rattle.store_spawn.specs.Spawn.{spawning}
use Rattle.store_despawn.specs.Despawn.{despawning}
use Rattle.store_reserve.specs.Reserve.{reserving, reserving_many}
use Rattle.store_flush.specs.Flush.{flushing}
use Rattle.store_flush.specs.Clear.{clearing}
use Rattle.soundness.specs.IdCalls.{is_live, is_new}

-- what a read of a type by these bits gives, with its twin: the component's bytes, or the refusal's number
unfoldable pub read_bytes : Store → ℕ → ℕ → Answer (List ℕ)
read_bytes s bits type = reading s bits type and_then (λ p. granted (cell s.rows.bytes p.0 p.1))

-- the column of a type in the archetype of the handle's place
abbrev pub column_for : Store → ℕ → ℕ → Option ℕ
column_for s bits type = column_of (types_of s.decl (archetype_of s (number_in bits))) type

-- Of a handle, whose generation is not 0:
pub record ReadsOf (s : Store) (bits type : ℕ) : Type 0 where
  -- neither live nor reserved as a new number: 2
  pub absent : is_live s.ids bits ≡ false → is_new s.ids bits ≡ false → read_bytes s bits type ≡ refused 2
  -- a reserved new number: 15
  pub reserved : is_new s.ids bits ≡ true → read_bytes s bits type ≡ refused 15
  -- live, in an archetype that lacks the component: 15
  pub lacks : is_live s.ids bits ≡ true → column_for s bits type ≡ None → read_bytes s bits type ≡ refused 15
  -- live, with the component: the bytes of its own row, unless its column is borrowed uniquely
  pub holds : is_live s.ids bits ≡ true → (j : ℕ) → column_for s bits type ≡ Some j
      → is_unique (get_or s.words (first_column s.decl (archetype_of s (number_in bits)) + j) 0) ≡ false
      → read_bytes s bits type ≡ granted (cell s.rows.bytes (cell_start s.decl (archetype_of s (number_in bits)) j (row_of s (number_in bits))) (size_of s.decl (archetype_of s (number_in bits)) j))

-- one of these
abbrev pub Among : ℕ → List ℕ → Type 0
Among x xs = (i : ℕ) × (i < length xs) × (get_or xs i 0 ≡ x)

-- Every other handle reads what it read, bytes or refusal. Insert, remove and spawn at stand in StoreMoves.
pub record OthersRead (s : Store) : Type 0 where
  -- but the handle that is given
  pub spawn : (a : ℕ) (run : List ℕ) (bits : ℕ) (t : Store) → granted (bits, t) ≡ spawning s a run
      → (other type : ℕ) → (other ≡ bits → ⊥) → read_bytes t other type ≡ read_bytes s other type
  -- but the one that is despawned
  pub despawn : (bits : ℕ) (t : Store) → granted (tt, t) ≡ despawning s bits
      → (other type : ℕ) → (other ≡ bits → ⊥) → read_bytes t other type ≡ read_bytes s other type
  -- but that component of that handle
  pub write : (bits type : ℕ) (value : List ℕ) (t : Store) → granted (tt, t) ≡ writing s bits type value
      → (other kind : ℕ) → (other ≡ bits → kind ≡ type → ⊥) → read_bytes t other kind ≡ read_bytes s other kind
  -- but components of the column that is borrowed or released
  pub hold : (rule : ℕ → Answer ℕ) (a type : ℕ) (t : Store) → granted (tt, t) ≡ holding rule s a type
      → (other kind : ℕ) → ((j : ℕ) → column_for s other kind ≡ Some j → first_column s.decl (archetype_of s (number_in other)) + j ≡ place_in s.decl a (column_of (types_of s.decl a) type) → ⊥)
      → read_bytes t other kind ≡ read_bytes s other kind
  -- but the handle that is given
  pub reserve_one : (bits : ℕ) (t : Store) → granted (bits, t) ≡ reserving s
      → (other type : ℕ) → (other ≡ bits → ⊥) → read_bytes t other type ≡ read_bytes s other type
  -- but the handles that are given
  pub reserve_many : (n : ℕ) (out left : List ℕ) (t : Store) → granted (tt, (t, left)) ≡ reserving_many s n out
      → (other type : ℕ) → (Among other (handles s.ids n) → ⊥) → read_bytes t other type ≡ read_bytes s other type
  -- but those of the reserved numbers
  pub flush : (t : Store) → granted (tt, t) ≡ flushing s
      → (other type : ℕ) → (Among (number_in other) (reserved_fresh s.ids ++ reserved_old s.ids) → ⊥) → read_bytes t other type ≡ read_bytes s other type

-- The handles that a call names read, afterwards:
pub record NamedRead (s : Store) : Type 0 where
  -- the run that was given, in column order, and 15 for a type that the archetype lacks
  pub spawn : (a : ℕ) (run : List ℕ) (bits : ℕ) (t : Store) → granted (bits, t) ≡ spawning s a run
      → (type j : ℕ) → column_of (types_of s.decl a) type ≡ Some j → read_bytes t bits type ≡ granted (cell run (width (take j (sizes_of s.decl a))) (size_of s.decl a j))
  pub spawn_lacks : (a : ℕ) (run : List ℕ) (bits : ℕ) (t : Store) → granted (bits, t) ≡ spawning s a run
      → (type : ℕ) → column_of (types_of s.decl a) type ≡ None → read_bytes t bits type ≡ refused 15
  -- no such entity
  pub despawn : (bits : ℕ) (t : Store) → granted (tt, t) ≡ despawning s bits → (type : ℕ) → read_bytes t bits type ≡ refused 2
  -- the value that was written
  pub write : (bits type : ℕ) (value : List ℕ) (t : Store) → granted (tt, t) ≡ writing s bits type value → read_bytes t bits type ≡ granted value
  -- after a clear, no handle reads
  pub clear : (t : Store) → granted (tt, t) ≡ clearing s → (bits type : ℕ) → (generation_in bits ≡ 0 → ⊥) → read_bytes t bits type ≡ refused 2
