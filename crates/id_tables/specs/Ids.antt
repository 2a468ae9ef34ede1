-- The id tables as lent, what every call tests first, and what it may find in an entry.
use Rattle.std.specs.Prelude.{◌≡◌, ℕ, ◌+◌, ◌-◌, ◌≤◌, Bool, false, not, ◌&&◌, ◌||◌, ltb, List, [], ◌∷◌, ◌++◌, length, ◌==◌, nat_le, nat_lt, slice_index, slice_set}
use Rattle.refusal.specs.Table.{Rule, ◌when◌}
use Rattle.handle.specs.Bits.{MAX, place_of}
use Rattle.handle.specs.declared.Place.{Place}
use Rattle.id_tables.specs.declared.head.Head.{Head}
use Rattle.id_tables.specs.declared.tables.IdTables.{IdTables}
use Rattle.id_tables.specs.Head.{free_of, new_of, head_rules, room_in}

-- generation, archetype and index of each number, and the pending list
pub record Ids : Type 0 where
  pub head : Head
  pub generations : List ℕ
  pub archetypes : List ℕ
  pub indices : List ℕ
  pub pending : List ℕ

abbrev pub ids_of : Head → List ℕ → List ℕ → List ℕ → List ℕ → Ids
ids_of h g a x p = record { head = h; generations = g; archetypes = a; indices = x; pending = p }

-- the tables that a view lends
abbrev pub ids_in : IdTables → Ids
ids_in t = ids_of t.head t.generations.now t.archetypes.now t.indices.now t.pending.now

-- Capacity: 0 to 4,096 numbers
abbrev pub max_capacity : ℕ
max_capacity = 4096

abbrev pub capacity : Ids → ℕ
capacity s = length s.generations

-- the capacity's limit
unfoldable pub capacity_rules : ℕ → List Rule
capacity_rules capacity = 12 when ltb max_capacity capacity ∷ []

-- three tables as long as the capacity
unfoldable pub length_rules : ℕ → ℕ → ℕ → ℕ → List Rule
length_rules capacity archetypes indices pending =
    13 when not (archetypes == capacity)
    ∷ 13 when not (indices == capacity)
    ∷ 13 when not (pending == capacity)
    ∷ []

-- What every call tests first. `short`: it is lent an output that is too short.
unfoldable pub entry : Ids → Bool → List Rule
entry s short =
    capacity_rules (length s.generations)
    ++ (length_rules (length s.generations) (length s.archetypes) (length s.indices) (length s.pending)
    ++ 13 when short ∷ head_rules s.head (length s.generations))

-- numbers neither live nor reserved
abbrev pub room : Ids → ℕ
room s = room_in s.head (capacity s)

abbrev pub generation_at : Ids → ℕ → ℕ
generation_at s n = slice_index s.generations n

abbrev pub index_at : Ids → ℕ → ℕ
index_at s n = slice_index s.indices n

abbrev pub place_at : Ids → ℕ → Place
place_at s n = place_of (slice_index s.archetypes n) (index_at s n)

-- Damage of a pending entry that a call uses: a number ≥ used, its generation 0, its index not MAX.
unfoldable pub damaged_in : ℕ → List ℕ → List ℕ → ℕ → Bool
damaged_in used generations indices n = nat_le used n || (slice_index generations n == 0 || not (slice_index indices n == MAX))

abbrev pub damaged : Ids → ℕ → Bool
damaged s n = damaged_in s.head.used s.generations s.indices n

-- one of these pending numbers is damaged
unfoldable pub any_damaged_in : ℕ → List ℕ → List ℕ → List ℕ → Bool
any_damaged_in used generations indices [] = false
any_damaged_in used generations indices (n ∷ ns) = damaged_in used generations indices n || any_damaged_in used generations indices ns

abbrev pub any_damaged : Ids → List ℕ → Bool
any_damaged s ns = any_damaged_in s.head.used s.generations s.indices ns

-- number n is below used, has this generation and a place: what free, get and a set place ask for
unfoldable pub live_in : ℕ → List ℕ → List ℕ → ℕ → ℕ → Bool
live_in used generations indices generation n =
    nat_lt n used && (slice_index generations n == generation && not (slice_index indices n == MAX))

abbrev pub live : Ids → ℕ → ℕ → Bool
live s generation n = live_in s.head.used s.generations s.indices generation n

-- the tables with number n at this place
abbrev pub placed : Ids → ℕ → Place → Ids
placed s n place =
    ids_of s.head s.generations (slice_set s.archetypes n place.archetype) (slice_set s.indices n place.index.0) s.pending

-- what passing the first tests gives
pub record EntryOk (s : Ids) : Type 0 where
  pub small : length s.generations ≤ max_capacity
  pub archetypes_long : length s.archetypes ≡ length s.generations
  pub indices_long : length s.indices ≡ length s.generations
  pub pending_long : length s.pending ≡ length s.generations
  pub used_in : s.head.used ≤ length s.generations
  pub pending_in : s.head.pending ≤ s.head.used
  pub free_in : free_of s.head.cursor ≤ s.head.pending
  pub new_in : s.head.used + new_of s.head.cursor ≤ length s.generations
  pub live_is : s.head.live ≡ s.head.used - s.head.pending
