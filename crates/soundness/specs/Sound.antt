-- Sound, clause by clause as document 01 has it: of the id tables alone, and of a whole store.
use Prim.{tt}
use Rattle.std.specs.Prelude.{ℕ, ◌<◌, ◌≡◌, false, get_or}
use Rattle.refusal.specs.Table.{granted, passing}
use Rattle.handle.specs.Bits.{MAX, place_of}
use Rattle.id_tables.specs.Ids.{Ids, generation_at, index_at, place_at}
use Rattle.id_tables.specs.Ids.{entry as idsEntry}
use Rattle.decl.specs.Decl.{archetypes}
use Rattle.row_step.specs.Tables.{count_of}
use Rattle.store_tables.specs.Store.{Store, entry}
use Rattle.store_tables.specs.Rows.{number_at}

-- the number at position j of the pending list
abbrev pub pending_at : Ids → ℕ → ℕ
pending_at s j = get_or s.pending j 0

-- number n is pending: it stands at a position below the pending count
abbrev pub Pending : Ids → ℕ → Type 0
Pending s n = (j : ℕ) × (j < s.head.pending) × (pending_at s j ≡ n)

-- the numbers below used and not pending: the live numbers
abbrev pub Lives : Ids → ℕ → Type 0
Lives s n = (n < s.head.used) × (Pending s n → ⊥)

-- The id tables.
pub record SoundIds (s : Ids) : Type 0 where
  -- the tables are as long as the capacity, which is within its limit (12 and 13 don't apply), and the head keeps the head rule
  pub head_rule : granted tt ≡ passing (idsEntry s false)
  -- pending numbers are different,
  pub pending_differ : (i j : ℕ) → i < j → j < s.head.pending → pending_at s i ≡ pending_at s j → ⊥
  -- below used,
  pub pending_below : (j : ℕ) → j < s.head.pending → pending_at s j < s.head.used
  -- with place (0, MAX)
  pub pending_place : (j : ℕ) → j < s.head.pending → place_at s (pending_at s j) ≡ place_of 0 MAX
  -- every generation below used is nonzero
  pub generation_nonzero : (n : ℕ) → n < s.head.used → generation_at s n ≡ 0 → ⊥
  -- a number below used and not pending has a row: all that the id tables can say of it
  pub lives_placed : (n : ℕ) → Lives s n → index_at s n ≡ MAX → ⊥

-- row r of archetype a is in use
abbrev pub InUse : Store → ℕ → ℕ → Type 0
InUse s a r = (a < archetypes s.decl) × (r < count_of s.rows a)

-- The store.
pub record Sound (s : Store) : Type 0 where
  -- the declaration and every length are right (12 and 13 don't apply), and the head rule, its row counts among it
  pub head_rule : granted tt ≡ passing (entry s false)
  -- pending numbers and generations, as above
  pub ids : SoundIds s.ids
  -- The numbers below used and not pending are exactly those named in archetype rows:
  -- a row in use names such a number,
  pub row_lives : (a r : ℕ) → InUse s a r → Lives s.ids (number_at s a r)
  -- and such a number is named in a row in use,
  pub lives_named : (n : ℕ) → Lives s.ids n → (a : ℕ) × (r : ℕ) × InUse s a r × (number_at s a r ≡ n)
  -- once each,
  pub named_once : (a r b q : ℕ) → InUse s a r → InUse s b q → number_at s a r ≡ number_at s b q → (a ≡ b) × (r ≡ q)
  -- each with its own (archetype, row) as its place
  pub own_place : (a r : ℕ) → InUse s a r → place_at s.ids (number_at s a r) ≡ place_of a r
