-- A table kept in a list of tables, and the digest of the store's tables.
use Rattle.std.specs.Prelude.{ℕ, cond, List, ◌++◌, ltb, length, take, drop, fold, replicate}
use Rattle.replay_line.specs.Tables.{words, numbers, bytes, filled, mixed_word, mixed_low}
use Rattle.replay_store_line.specs.declared.Tables.{Tables}

-- from a position on, as far as the list goes
unfoldable pub kept : {V T : Type 0} → (V → T) → List T → ℕ → List V → List T
kept keeps tables at values = cond (ltb at (length tables)) (take at tables ++ filled keeps (drop at tables) values) tables

abbrev pub kept_word : List ℕ → ℕ → List ℕ → List ℕ
kept_word = kept words

-- all tables that a call may change
unfoldable pub kept_all : List ℕ → List ℕ → List ℕ → List ℕ → List ℕ → List ℕ → List ℕ → List ℕ → List ℕ → List ℕ → List ℕ
kept_all t head generations archetypes indices pending numbers counts bytes words =
    kept_word (kept_word (kept_word (kept_word (kept_word (kept_word (kept_word (kept_word (kept_word t 0 head) 34 generations) 50 archetypes) 66 indices) 82 pending) 98 numbers) 114 counts) 120 bytes) 184 words

-- so many numbers from a position on
abbrev pub table : List ℕ → ℕ → ℕ → List ℕ
table tables at count = take count (drop at tables)

-- a table's numbers have 32 bits at most, but for the head's and the borrow words
abbrev pub lows : ℕ → List ℕ → ℕ
lows digest values = fold mixed_low digest values

abbrev pub wholes : ℕ → List ℕ → ℕ
wholes digest values = fold mixed_word digest values

-- the tables that are lent whole before the pending list lie together
unfoldable pub digest_of : List ℕ → ℕ → ℕ → ℕ
digest_of t pending counts =
    wholes (lows (lows (lows (lows (lows (wholes 0 (table t 0 4)) (table t 4 78)) (table t 82 pending)) (table t 98 16)) (table t 114 counts)) (table t 120 64)) (table t 184 9)

-- each table as an array: what the list tells of it, and zeros past its end
abbrev pub told_in : List ℕ → Tables
told_in t =
    record {
      head = filled words (replicate 4 0) (table t 0 4);
      rows = filled numbers (replicate 6 0) (table t 4 6);
      widths = filled numbers (replicate 6 0) (table t 10 6);
      types = filled numbers (replicate 9 0) (table t 16 9);
      sizes = filled numbers (replicate 9 0) (table t 25 9);
      generations = filled numbers (replicate 16 0) (table t 34 16);
      archetypes = filled numbers (replicate 16 0) (table t 50 16);
      indices = filled numbers (replicate 16 0) (table t 66 16);
      pending = filled numbers (replicate 16 0) (table t 82 16);
      numbers = filled numbers (replicate 16 0) (table t 98 16);
      counts = filled numbers (replicate 6 0) (table t 114 6);
      bytes = filled bytes (replicate 64 0) (table t 120 64);
      words = filled words (replicate 9 0) (table t 184 9);
    }
