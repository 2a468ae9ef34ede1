-- The third demand, clause by clause: what is asked of the tables, and what then holds of reservations and a flush, against direct spawns.
use Prim.{tt}
use Rattle.std.specs.Prelude.{ℕ, ◌+◌, ◌<◌, ◌≤◌, ◌≡◌, ◌⊎◌, ◌↔◌, true, false, List, ◌++◌, length, get_or}
use Rattle.refusal.specs.Table.{granted, refused}
use Rattle.handle.specs.Bits.{MAX, generation_in, number_in, place_of}
use Rattle.borrow_word.specs.Slice.{any_held}
use Rattle.id_tables.specs.Head.{flushed}
use Rattle.id_tables.specs.Ids.{generation_at, room}
use Rattle.decl.specs.Decl.{rows_of}
use Rattle.row_step.specs.Tables.{count_of}
use Rattle.store_tables.specs.Store.{Store}
use Rattle.store_reads.specs.Lookup.{getting, containing, counting}
use Rattle.store_reserve.specs.Reserve.{listing_free}
use Rattle.store_flush.specs.Flush.{flushing}
use Rattle.soundness.specs.Sound.{Lives, Sound}
use Rattle.store_soundness.specs.Reads.{read_bytes}
use Rattle.demand_three.specs.Steps.{Step, size, LongEnough, run, spawns}

-- Take sound tables, declared and lent so that 12 and 13 don't apply (Sound says both),
pub record Ready (s : Store) (n : ℕ) : Type 0 where
  pub sound : Sound s
  -- with nothing reserved,
  pub nothing_reserved : flushed s.ids.head ≡ true
  -- no borrow held,
  pub no_borrow : any_held s.words ≡ false
  -- at least n numbers neither live nor reserved (that room counts those is room-says, in IdCalls of soundness),
  pub numbers : n ≤ room s.ids
  -- and n spare rows in archetype 0.
  pub rows : count_of s.rows 0 + n ≤ rows_of s.decl 0

-- a handle is among others
abbrev pub Among : ℕ → List ℕ → Type 0
Among h hs = (i : ℕ) × (i < length hs) × (get_or hs i 0 ≡ h)

-- a handle is live: its number lives, at its generation
abbrev pub Live : Store → ℕ → Type 0
Live s h = Lives s.ids (number_in h) × (generation_at s.ids (number_in h) ≡ generation_in h)

-- its lookups are the same in both: contains, get, and a read of any type, with the bytes that it gives
abbrev pub SameLookup : Store → Store → ℕ → Type 0
SameLookup s t h = (containing t h ≡ containing s h) × (getting t h ≡ getting s h) × ((kind : ℕ) → read_bytes t h kind ≡ read_bytes s h kind)

-- what lookups say while these handles are reserved: contains yes, get (0, MAX) of a new number and 2 of a recycled one; every other handle's as before
pub record Waiting (s : Store) (given : List ℕ) (t : Store) : Type 0 where
  pub contained : (h : ℕ) → Among h given → containing t h ≡ granted true
  pub got_new : (h : ℕ) → Among h given → s.ids.head.used ≤ number_in h → getting t h ≡ granted (place_of 0 MAX)
  pub got_recycled : (h : ℕ) → Among h given → number_in h < s.ids.head.used → getting t h ≡ refused 2
  pub others : (h : ℕ) → (Among h given → ⊥) → SameLookup s t h

-- Split n into single and batch reservations as you like, outputs long enough, with only lookups between: these are the steps.
pub record Demand (s : Store) (n : ℕ) (steps : List Step) : Type 0 where
  -- what the steps give and leave, what the flush leaves, and what n direct spawns into archetype 0 give and leave
  pub handles : List ℕ
  pub reserved : Store
  pub flushed : Store
  pub spawned : List ℕ
  pub direct : Store
  -- All are granted,
  pub all_granted : run steps s ≡ granted (handles, reserved)
  pub flush_granted : flushing reserved ≡ granted (tt, flushed)
  pub spawns_granted : spawns n s ≡ granted (spawned, direct)
  -- with n different handles
  pub n_handles : length handles ≡ n
  pub different : (i j : ℕ) → i < j → j < n → get_or handles i 0 ≡ get_or handles j 0 → ⊥
  -- on numbers not live.
  pub not_live : (h : ℕ) → Among h handles → Lives s.ids (number_in h) → ⊥
  -- The flush makes exactly these newly live
  pub newly_live : (h : ℕ) → Live flushed h ↔ (Live s h ⊎ Among h handles)
  pub contains_says : (h : ℕ) → (containing flushed h ≡ granted true) ↔ Live flushed h
  -- and raises the live count by n.
  pub live_count : (counting s ≡ granted s.ids.head.live) × (counting flushed ≡ granted (s.ids.head.live + n))
  -- The set of handles,
  pub n_spawned : length spawned ≡ n
  pub same_handles : (h : ℕ) → Among h handles ↔ Among h spawned
  -- every generation,
  pub same_generations : flushed.ids.generations ≡ direct.ids.generations
  -- the free list in order
  pub same_free_list : (out : List ℕ) → flushed.ids.head.pending ≤ length out → listing_free flushed out ≡ listing_free direct out
  -- and the live count equal those after n direct spawns into archetype 0,
  pub same_live_count : counting flushed ≡ counting direct
  -- and every other handle's lookup is unchanged,
  pub others : (h : ℕ) → (Among h handles → ⊥) → SameLookup s flushed h × SameLookup s direct h
  -- after each of the steps too.
  pub between : (early late : List Step) → early ++ late ≡ steps → (given : List ℕ) (t : Store) → run early s ≡ granted (given, t) → Waiting s given t
  -- The tables are sound all the while.
  pub reserved_sound : Sound reserved
  pub flushed_sound : Sound flushed
  pub direct_sound : Sound direct

-- The demand: for any such tables, and any such split.
abbrev pub ThirdDemand : Type 0
ThirdDemand = (s : Store) (n : ℕ) → Ready s n → (steps : List Step) → size steps ≡ n → LongEnough steps → Demand s n steps

-- What any reservations that are granted hand out, from whatever sound tables: different handles, of numbers that were neither live nor reserved.
pub record Handed (s : Store) (given : List ℕ) : Type 0 where
  pub different : (i j : ℕ) → i < j → j < length given → get_or given i 0 ≡ get_or given j 0 → ⊥
  pub not_live : (h : ℕ) → Among h given → Lives s.ids (number_in h) → ⊥
  pub not_reserved : (h : ℕ) → Among h given → containing s h ≡ granted false

abbrev pub HandlesDiffer : Type 0
HandlesDiffer = (s : Store) → Sound s → (steps : List Step) (given : List ℕ) (t : Store) → run steps s ≡ granted (given, t) → Handed s given
