-- What each store call does on sound tables: what it grants leaves them sound, it refuses exactly where document 01's table says, never by 12 or 1, and the live count is the rows held.
use Prim.{tt}
use Rattle.std.specs.Prelude.{ℕ, ◌+◌, ◌-◌, ◌≡◌, false, not, ◌||◌, List, [], ◌∷◌, ltb, leb, eqb, length}
use Rattle.refusal.specs.Table.{◌when◌, Answer, granted, passing, ◌or_else◌}
use Rattle.handle.specs.Bits.{generation_in, number_in}
use Rattle.borrow_word.specs.Word.{is_unique}
use Rattle.borrow_word.specs.Slice.{any_held}
use Rattle.id_tables.specs.Head.{free_of, new_of, flushed}
use Rattle.id_tables.specs.Ids.{room}
use Rattle.id_batches.specs.Flush.{reserved_count}
use Rattle.decl.specs.Lists.{sum}
use Rattle.decl.specs.Decl.{archetypes, rows_of, types_of}
use Rattle.decl.specs.Lookup.{column_of}
use Rattle.row_step.specs.Tables.{count_of}
use Rattle.column_entry.specs.Entry.{wrong_size}
use Rattle.store_tables.specs.Store.{Store, entry}
use Rattle.store_tables.specs.Rows.{archetype_of}
use Rattle.store_tables.specs.Run.{run_wrong}
use Rattle.store_tables.specs.Held.{is_missing}
use Rattle.store_reads.specs.Lines.{place_in, word_in}
use Rattle.store_reads.specs.Read.{reading}
use Rattle.store_reads.specs.Lookup.{getting, containing, resolving, counting}
use Rattle.store_reads.specs.Write.{writing}
use Rattle.store_reads.specs.Words.{word_stored, holding}
use Rattle.store_spawn.specs.Spawn.{spawning}
use Rattle.store_despawn.specs.Despawn.{despawning}
use Rattle.store_reserve.specs.Reserve.{reserving, reserving_many, listing_free}
use Rattle.store_flush.specs.Flush.{flushing}
use Rattle.store_flush.specs.Clear.{clearing}
use Rattle.soundness.specs.Sound.{Sound}
use Rattle.soundness.specs.IdCalls.{By, is_live, is_new}
use Rattle.store_soundness.specs.Reads.{column_for}

-- Fresh tables: the first tests pass, no number is used and no row. They are sound.
abbrev pub FreshSound : Type 0
FreshSound = (s : Store) → granted tt ≡ passing (entry s false) → s.ids.head.used ≡ 0 → ((a : ℕ) → count_of s.rows a ≡ 0) → Sound s

-- What is granted leaves sound tables. Reads and lookups leave none. Insert, remove and spawn at stand in StoreMoves.
pub record Keeps (s : Store) : Type 0 where
  pub spawn : (a : ℕ) (run : List ℕ) (bits : ℕ) (t : Store) → granted (bits, t) ≡ spawning s a run → Sound t
  pub despawn : (bits : ℕ) (t : Store) → granted (tt, t) ≡ despawning s bits → Sound t
  pub write : (bits type : ℕ) (value : List ℕ) (t : Store) → granted (tt, t) ≡ writing s bits type value → Sound t
  -- borrow and release, shared and unique: by any rule of a word
  pub hold : (rule : ℕ → Answer ℕ) (a type : ℕ) (t : Store) → granted (tt, t) ≡ holding rule s a type → Sound t
  pub reserve_one : (bits : ℕ) (t : Store) → granted (bits, t) ≡ reserving s → Sound t
  pub reserve_many : (n : ℕ) (out left : List ℕ) (t : Store) → granted (tt, (t, left)) ≡ reserving_many s n out → Sound t
  pub flush : (t : Store) → granted (tt, t) ≡ flushing s → Sound t
  pub clear : (t : Store) → granted (tt, t) ≡ clearing s → Sound t

-- When each call refuses. `room` counts the numbers neither live nor reserved; `count_of` is an archetype's row count, `rows_of` its rows.
pub record Refuses (s : Store) : Type 0 where
  pub spawn : (a : ℕ) (run : List ℕ)
      → By (13 when run_wrong s.decl a run ∷ 3 when not (flushed s.ids.head) ∷ 6 when leb (archetypes s.decl) a ∷ 8 when any_held s.words
      ∷ 4 when ltb (room s.ids) 1 ∷ 4 when leb (rows_of s.decl a) (count_of s.rows a) ∷ []) (spawning s a run)
  pub despawn : (bits : ℕ)
      → By (5 when eqb (generation_in bits) 0 ∷ 3 when not (flushed s.ids.head) ∷ 2 when not (is_live s.ids bits) ∷ 8 when any_held s.words ∷ []) (despawning s bits)
  -- 15: a reserved handle, or a type that the archetype lacks; 7, 8: the word of the component's column
  pub read : (bits type : ℕ)
      → By (5 when eqb (generation_in bits) 0 ∷ 2 when not (is_live s.ids bits || is_new s.ids bits) ∷ 15 when (not (is_live s.ids bits) || is_missing (column_for s bits type))
      ∷ 7 when is_unique (word_in s.decl s.words (archetype_of s (number_in bits)) (column_for s bits type)) ∷ []) (reading s bits type)
  pub write : (bits type : ℕ) (value : List ℕ)
      → By (13 when wrong_size s.decl.types s.decl.sizes type (length value) ∷ 5 when eqb (generation_in bits) 0 ∷ 2 when not (is_live s.ids bits || is_new s.ids bits)
      ∷ 15 when (not (is_live s.ids bits) || is_missing (column_for s bits type)) ∷ 8 when not (eqb (word_in s.decl s.words (archetype_of s (number_in bits)) (column_for s bits type)) 0) ∷ []) (writing s bits type value)
  -- borrow and release: 6, 15, then what the word's own rule says
  pub hold : (rule : ℕ → Answer ℕ) (a type : ℕ)
      → holding rule s a type ≡ (6 when leb (archetypes s.decl) a ∷ 15 when is_missing (column_of (types_of s.decl a) type) ∷ []
      or_else word_stored s (place_in s.decl a (column_of (types_of s.decl a) type)) (rule (word_in s.decl s.words a (column_of (types_of s.decl a) type))))
  pub get : (bits : ℕ) → By (5 when eqb (generation_in bits) 0 ∷ 2 when not (is_live s.ids bits || is_new s.ids bits) ∷ []) (getting s bits)
  pub contains : (bits : ℕ) → By (5 when eqb (generation_in bits) 0 ∷ []) (containing s bits)
  pub resolve : (n : ℕ) → By (2 when leb (s.ids.head.used + new_of s.ids.head.cursor) n ∷ []) (resolving s n)
  pub len : By [] (counting s)
  pub free_list : (out : List ℕ) → By (13 when ltb (length out) (free_of s.ids.head.cursor) ∷ []) (listing_free s out)
  pub reserve_one : By (4 when ltb (room s.ids) 1 ∷ []) (reserving s)
  pub reserve_many : (n : ℕ) (out : List ℕ) → By (13 when ltb (length out) n ∷ 4 when ltb (room s.ids) n ∷ []) (reserving_many s n out)
  pub flush : By (8 when any_held s.words ∷ 4 when ltb (rows_of s.decl 0) (count_of s.rows 0 + reserved_count s.ids) ∷ []) (flushing s)
  pub clear : By (8 when any_held s.words ∷ []) (clearing s)

-- live = rows held = used − pending
pub record Counts (s : Store) : Type 0 where
  pub live_rows : s.ids.head.live ≡ sum s.rows.counts
  pub live_numbers : s.ids.head.live ≡ s.ids.head.used - s.ids.head.pending
