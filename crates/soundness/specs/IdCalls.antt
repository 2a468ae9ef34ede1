-- What each call of the id layer does on sound tables: what it grants leaves them sound, and it refuses exactly where document 01's table says, never by 12 or 1.
use Prim.{tt}
use Rattle.std.specs.Prelude.{ℕ, ◌+◌, ◌-◌, ◌<◌, ◌≤◌, ◌≡◌, ◌⊎◌, ◌↔◌, Bool, true, not, ◌||◌, List, [], ◌∷◌, ltb, leb, eqb, length, get_or}
use Rattle.std.proofs.Math.Option.{Option}
use Rattle.refusal.specs.Table.{Rule, ◌when◌, Answer, granted, ◌otherwise◌}
use Rattle.handle.specs.Bits.{MAX, generation_in, number_in}
use Rattle.handle.specs.declared.Place.{Place}
use Rattle.id_tables.specs.Head.{free_of, new_of, flushed}
use Rattle.id_tables.specs.Ids.{Ids, capacity, room, generation_at, live}
use Rattle.id_tables.specs.Lookup.{reserved_new, containing, getting, setting_place, resolving, counting, clearing}
use Rattle.ids.specs.Reserve as one
use Rattle.ids.specs.Alloc.{allocating}
use Rattle.ids.specs.AllocAt.{allocating_at}
use Rattle.ids.specs.Free.{freeing}
use Rattle.id_batches.specs.Reserve as many
use Rattle.id_batches.specs.Flush.{reserved_count, flushing}
use Rattle.id_batches.specs.Freelist.{listing}
use Rattle.id_batches.specs.AllocMany.{allocating_many}
use Rattle.id_batches.specs.declared.many.AllocManyState.{AllocManyState}
use Rattle.soundness.specs.Sound.{Lives, SoundIds}

-- What is granted leaves sound tables. The lookups leave none.
pub record Keeps (s : Ids) : Type 0 where
  pub reserve_one : (bits : ℕ) (t : Ids) → granted (bits, t) ≡ one.reserving s → SoundIds t
  pub reserve_many : (n : ℕ) (out left : List ℕ) (t : Ids) → granted (tt, (t, left)) ≡ many.reserving s n out → SoundIds t
  pub alloc : (place : Place) (bits : ℕ) (t : Ids) → granted (bits, t) ≡ allocating s place → SoundIds t
  pub alloc_many : (n archetype first : ℕ) (walk : AllocManyState) (t : Ids) → granted (walk, t) ≡ allocating_many s n archetype first → SoundIds t
  pub alloc_at : (bits : ℕ) (place : Place) (had : Option Place) (t : Ids) → granted (had, t) ≡ allocating_at s bits place → SoundIds t
  pub free : (bits : ℕ) (had : Place) (t : Ids) → granted (had, t) ≡ freeing s bits → SoundIds t
  pub set_place : (bits : ℕ) (place : Place) (t : Ids) → granted (tt, t) ≡ setting_place s bits place → SoundIds t
  pub flush : (archetype first : ℕ) (t : Ids) → granted (tt, t) ≡ flushing s archetype first → SoundIds t
  pub clear : (t : Ids) → granted (tt, t) ≡ clearing s → SoundIds t

-- the call refuses by the first of these lines that holds, and grants where none does
abbrev pub By : {A : Type 0} → List Rule → Answer A → Type 0
By {A} lines rule = (v : A) × (rule ≡ (lines otherwise v))

-- the handle of these bits is live
abbrev pub is_live : Ids → ℕ → Bool
is_live s bits = live s (generation_in bits) (number_in bits)

-- or of a reserved new number
abbrev pub is_new : Ids → ℕ → Bool
is_new s bits = reserved_new s.head (generation_in bits) (number_in bits)

-- When each call refuses. `room` counts the numbers neither live nor reserved.
pub record Refuses (s : Ids) : Type 0 where
  pub reserve_one : By (4 when ltb (room s) 1 ∷ []) (one.reserving s)
  pub reserve_many : (n : ℕ) (out : List ℕ) → By (13 when ltb (length out) n ∷ 4 when ltb (room s) n ∷ []) (many.reserving s n out)
  pub alloc : (place : Place) → By (3 when not (flushed s.head) ∷ 6 when leb MAX place.index.0 ∷ 4 when ltb (room s) 1 ∷ []) (allocating s place)
  pub alloc_many : (n archetype first : ℕ) → By (3 when not (flushed s.head) ∷ 6 when ltb MAX (first + n) ∷ 4 when ltb (room s) n ∷ []) (allocating_many s n archetype first)
  pub alloc_at : (bits : ℕ) (place : Place)
      → By (5 when eqb (generation_in bits) 0 ∷ 3 when not (flushed s.head) ∷ 6 when leb MAX place.index.0 ∷ 4 when leb (capacity s) (number_in bits) ∷ []) (allocating_at s bits place)
  pub free : (bits : ℕ) → By (5 when eqb (generation_in bits) 0 ∷ 3 when not (flushed s.head) ∷ 2 when not (is_live s bits) ∷ []) (freeing s bits)
  pub set_place : (bits : ℕ) (place : Place) → By (5 when eqb (generation_in bits) 0 ∷ 6 when leb MAX place.index.0 ∷ 2 when not (is_live s bits) ∷ []) (setting_place s bits place)
  pub get : (bits : ℕ) → By (5 when eqb (generation_in bits) 0 ∷ 2 when not (is_live s bits || is_new s bits) ∷ []) (getting s bits)
  pub contains : (bits : ℕ) → By (5 when eqb (generation_in bits) 0 ∷ []) (containing s bits)
  pub resolve : (n : ℕ) → By (2 when leb (s.head.used + new_of s.head.cursor) n ∷ []) (resolving s n)
  pub len : By [] (counting s)
  pub flush : (archetype first : ℕ) → By (6 when ltb MAX (first + reserved_count s) ∷ []) (flushing s archetype first)
  pub free_list : (out : List ℕ) → By (13 when ltb (length out) (free_of s.head.cursor) ∷ []) (listing s out)
  pub clear : By [] (clearing s)

-- a number is reserved: it stands in the rest of pending, or is one of the new numbers from used on that the cursor has handed out
abbrev pub ReservedNumber : Ids → ℕ → Type 0
ReservedNumber s n =
    ((j : ℕ) × (free_of s.head.cursor ≤ j) × (j < s.head.pending) × (get_or s.pending j 0 ≡ n))
    ⊎ ((s.head.used ≤ n) × (n < s.head.used + new_of s.head.cursor))

-- a number within the capacity that is neither live nor reserved
abbrev pub Spare : Ids → ℕ → Type 0
Spare s n = (n < capacity s) × (Lives s n → ⊥) × (ReservedNumber s n → ⊥)

-- these are different, and are exactly the spare numbers
pub record ListsSpare (s : Ids) (ns : List ℕ) : Type 0 where
  pub different : (i j : ℕ) → i < j → j < length ns → get_or ns i 0 ≡ get_or ns j 0 → ⊥
  pub exactly : (n : ℕ) → ((i : ℕ) × (i < length ns) × (get_or ns i 0 ≡ n)) ↔ Spare s n

-- What the tests of those lines say.
pub record Says (s : Ids) : Type 0 where
  -- live: below used and not pending, at its generation
  pub live_says : (g n : ℕ) → (live s g n ≡ true) ↔ (Lives s n × (generation_at s n ≡ g))
  -- live = used − pending
  pub live_count : s.head.live ≡ s.head.used - s.head.pending
  -- room: the spare numbers can be listed, and every list of them is so long
  pub spare_listed : (ns : List ℕ) × ListsSpare s ns
  pub room_says : (ns : List ℕ) → ListsSpare s ns → length ns ≡ room s
