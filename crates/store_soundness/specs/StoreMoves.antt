-- Spawn at, insert and remove on sound tables, in the same words as StoreCalls and Reads.
use Rattle.std.specs.Prelude.{Some, None}
use Prim.{tt}
use Rattle.std.specs.Prelude.{ℕ, ◌≡◌, not, ◌&&◌, List, [], ◌∷◌, leb, eqb, length, take}
use Rattle.refusal.specs.Table.{◌when◌, granted, refused}
use Rattle.handle.specs.Bits.{generation_in, number_in}
use Rattle.borrow_word.specs.Slice.{any_held}
use Rattle.id_tables.specs.Head.{flushed}
use Rattle.id_tables.specs.Ids.{capacity}
use Rattle.decl.specs.Decl.{archetypes, rows_of, types_of, sizes_of, size_of}
use Rattle.decl.specs.Lookup.{column_of}
use Rattle.cells.specs.Cell.{cell}
use Rattle.cells.specs.Line.{width}
use Rattle.row_step.specs.Tables.{count_of}
use Rattle.column_entry.specs.Entry.{wrong_size}
use Rattle.store_tables.specs.Store.{Store}
use Rattle.store_tables.specs.Run.{run_wrong}
use Rattle.store_tables.specs.Held.{is_missing}
use Rattle.store_moves.specs.Lines.{is_none, is_full, grown_into, shrunk_into}
use Rattle.store_spawn_at.specs.SpawnAt.{without_old, spawning_at}
use Rattle.store_insert.specs.Insert.{inserting}
use Rattle.store_remove.specs.Remove.{removing}
use Rattle.soundness.specs.Sound.{Sound}
use Rattle.soundness.specs.IdCalls.{By, is_live}
use Rattle.store_soundness.specs.Reads.{read_bytes, column_for}

-- What is granted leaves sound tables.
pub record Keeps (s : Store) : Type 0 where
  pub spawn_at : (bits a : ℕ) (run : List ℕ) (t : Store) → granted (tt, t) ≡ spawning_at s bits a run → Sound t
  pub insert : (bits type : ℕ) (value : List ℕ) (t : Store) → granted (tt, t) ≡ inserting s bits type value → Sound t
  pub remove : (bits type : ℕ) (t : Store) → granted (tt, t) ≡ removing s bits type → Sound t

-- When each call refuses. `without_old` is the store without a live chosen number's old row; `grown_into` and `shrunk_into` are the
-- archetype with the type added and with the column's type taken, if there is one; `is_full`: none of its rows is unused.
pub record Refuses (s : Store) : Type 0 where
  pub spawn_at : (bits a : ℕ) (run : List ℕ)
      → By (13 when run_wrong s.decl a run ∷ 5 when eqb (generation_in bits) 0 ∷ 3 when not (flushed s.ids.head) ∷ 6 when leb (archetypes s.decl) a ∷ 8 when any_held s.words
      ∷ 4 when leb (capacity s.ids) (number_in bits) ∷ 4 when leb (rows_of s.decl a) (count_of (without_old s (number_in bits)).rows a) ∷ []) (spawning_at s bits a run)
  pub insert : (bits type : ℕ) (value : List ℕ)
      → By (13 when wrong_size s.decl.types s.decl.sizes type (length value) ∷ 5 when eqb (generation_in bits) 0 ∷ 3 when not (flushed s.ids.head) ∷ 2 when not (is_live s.ids bits)
      ∷ 14 when (is_missing (column_for s bits type) && is_none (grown_into s (number_in bits) type)) ∷ 8 when any_held s.words
      ∷ 4 when (is_missing (column_for s bits type) && is_full s (grown_into s (number_in bits) type)) ∷ []) (inserting s bits type value)
  pub remove : (bits type : ℕ)
      → By (5 when eqb (generation_in bits) 0 ∷ 3 when not (flushed s.ids.head) ∷ 2 when not (is_live s.ids bits) ∷ 15 when is_missing (column_for s bits type)
      ∷ 14 when is_none (shrunk_into s (number_in bits) (column_for s bits type)) ∷ 8 when any_held s.words ∷ 4 when is_full s (shrunk_into s (number_in bits) (column_for s bits type)) ∷ []) (removing s bits type)

-- Every other handle reads what it read, bytes or refusal.
pub record OthersRead (s : Store) : Type 0 where
  -- but those of the chosen number
  pub spawn_at : (bits a : ℕ) (run : List ℕ) (t : Store) → granted (tt, t) ≡ spawning_at s bits a run
      → (other type : ℕ) → (number_in other ≡ number_in bits → ⊥) → read_bytes t other type ≡ read_bytes s other type
  -- but the handle that is named
  pub insert : (bits type : ℕ) (value : List ℕ) (t : Store) → granted (tt, t) ≡ inserting s bits type value
      → (other kind : ℕ) → (other ≡ bits → ⊥) → read_bytes t other kind ≡ read_bytes s other kind
  pub remove : (bits type : ℕ) (t : Store) → granted (tt, t) ≡ removing s bits type
      → (other kind : ℕ) → (other ≡ bits → ⊥) → read_bytes t other kind ≡ read_bytes s other kind

-- The handle that a call names reads, afterwards:
pub record NamedRead (s : Store) : Type 0 where
  -- the run that was given, in column order, and 15 for a type that the archetype lacks
  pub spawn_at : (bits a : ℕ) (run : List ℕ) (t : Store) → granted (tt, t) ≡ spawning_at s bits a run
      → (type j : ℕ) → column_of (types_of s.decl a) type ≡ Some j → read_bytes t bits type ≡ granted (cell run (width (take j (sizes_of s.decl a))) (size_of s.decl a j))
  pub spawn_at_lacks : (bits a : ℕ) (run : List ℕ) (t : Store) → granted (tt, t) ≡ spawning_at s bits a run
      → (type : ℕ) → column_of (types_of s.decl a) type ≡ None → read_bytes t bits type ≡ refused 15
  -- the value that was inserted, and its other components as before
  pub insert : (bits type : ℕ) (value : List ℕ) (t : Store) → granted (tt, t) ≡ inserting s bits type value → read_bytes t bits type ≡ granted value
  pub insert_keeps : (bits type : ℕ) (value : List ℕ) (t : Store) → granted (tt, t) ≡ inserting s bits type value
      → (kind : ℕ) → (kind ≡ type → ⊥) → read_bytes t bits kind ≡ read_bytes s bits kind
  -- 15 for the component that was removed, and its other components as before
  pub remove : (bits type : ℕ) (t : Store) → granted (tt, t) ≡ removing s bits type → read_bytes t bits type ≡ refused 15
  pub remove_keeps : (bits type : ℕ) (t : Store) → granted (tt, t) ≡ removing s bits type
      → (kind : ℕ) → (kind ≡ type → ⊥) → read_bytes t bits kind ≡ read_bytes s bits kind
