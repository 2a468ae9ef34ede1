-- What the tests of a spawn at find of the chosen number, and how its steps hand it on.
use Prim.{tt}
use Rattle.std.specs.Prelude.{ℕ, ◌≡◌, Bool, true, false, not, ◌&&◌, List, leb, eqb, get_or, Option, Result, Ok, Err}
use Rattle.refusal.specs.Number.{number_of}
use Rattle.refusal.specs.Table.{granted, refused, passing, Did}
use Rattle.refusal.specs.declared.Refusal.{Refusal}
use Rattle.handle.specs.Bits.{place_of, generation_in, number_in}
use Rattle.handle.specs.declared.Number.{Number}
use Rattle.handle.specs.declared.Place.{Place}
use Rattle.id_tables.specs.declared.head.Head.{Head}
use Rattle.id_tables.specs.Ids.{Ids, ids_of, place_at}
use Rattle.ids.specs.Answers.{chosen_of}
use Rattle.ids.specs.AllocAt.{chosen_damaged, allocating_at}
use Rattle.decl.specs.Places.{span_of}
use Rattle.row_step.specs.declared.Block.{Block}
use Rattle.row_step.specs.Tables.{Rows, count_of}
use Rattle.store_steps.specs.Parts.{block_by, part_by}
use Rattle.store_steps.specs.Seats.{Seats, seats_of, seated_rows, vacated_seats}
use Rattle.store_tables.specs.Store.{Store}
use Rattle.store_tables.specs.Rows.{archetype_of, owns}
use Rattle.store_tables.specs.Seen.{moved_seen}
use Rattle.store_tables.specs.Kept.{Entered}
use Rattle.store_spawn_at.specs.declared.Standing.{Standing}
use Rattle.store_spawn_at.specs.declared.Standing.TheVariants.{Free, Damaged, Seated, Astray}
use Rattle.store_spawn_at.specs.SpawnAt.{chosen_live, without_old, spawn_at_rules, row_taken, spawning_at}

-- what is found, in the rule's words
unfoldable pub Stands : Store → ℕ → Standing → Type 0
Stands s n Free = (chosen_live s.ids n ≡ false) × (chosen_damaged s.ids n ≡ false)
Stands s n Damaged = (chosen_live s.ids n ≡ false) × (chosen_damaged s.ids n ≡ true)
Stands s n (Seated span place) =
    (chosen_live s.ids n ≡ true) × (owns s n ≡ true) × (span ≡ span_of s.decl (archetype_of s n)) × (place ≡ place_at s.ids n)
Stands s n Astray = (chosen_live s.ids n ≡ true) × (owns s n ≡ false)

-- the tests of the number have passed and it is this, or the first that has not gives its number
unfoldable pub Chooses : Store → ℕ → ℕ → Result (Number × Standing) Refusal → Type 0
Chooses s a n (Ok chosen) = Stands s n chosen.1 × (granted tt ≡ passing (spawn_at_rules s a n)) × (chosen.0.0 ≡ n)
Chooses s a n (Err r) = refused (number_of r) ≡ passing (spawn_at_rules s a n)

-- and of a handle's bits: why it is refused, or what the number is where it is not
unfoldable pub Picks : Store → ℕ → ℕ → List ℕ → Result (Number × Standing) Refusal → Type 0
Picks s bits a run (Ok chosen) =
    Entered s × (generation_in bits ≡ 0 → ⊥) × Chooses s a (number_in bits) (Ok chosen)
    × (spawning_at s bits a run ≡ row_taken (without_old s (number_in bits)) a run (generation_in bits) (number_in bits))
Picks s bits a run (Err r) = spawning_at s bits a run ≡ refused (number_of r)

abbrev pub astray : Standing → Bool
astray Free = false
astray Damaged = false
astray (Seated span place) = false
astray Astray = true

-- the old row is one of archetype a's
abbrev pub leaving_from : Standing → ℕ → Bool
leaving_from Free a = false
leaving_from Damaged a = false
leaving_from (Seated span place) a = eqb place.archetype a
leaving_from Astray a = false

-- no row of archetype a is unused, and none leaves
abbrev pub full_seen : List ℕ → List ℕ → ℕ → Standing → Bool
full_seen rows counts a standing = not (leaving_from standing a) && leb (get_or rows a 0) (get_or counts a 0)

-- the chosen number's entry is damaged, or that of the number which the old row's removal moves
abbrev pub damaged_seen : ℕ → List ℕ → List ℕ → List ℕ → List ℕ → Standing → Bool
damaged_seen used archetypes indices numbers counts Free = false
damaged_seen used archetypes indices numbers counts Damaged = true
damaged_seen used archetypes indices numbers counts (Seated span place) =
    moved_seen span.row used archetypes indices numbers counts place.archetype place.index.0
damaged_seen used archetypes indices numbers counts Astray = false

-- the tables of places and rows without the old row
unfoldable pub cleared_seats : List ℕ → List ℕ → Seats → Standing → Seats
cleared_seats rows sizes t Free = t
cleared_seats rows sizes t Damaged = t
cleared_seats rows sizes t (Seated span place) =
    vacated_seats (block_by rows span place.archetype) (part_by sizes span) t place.archetype place.index.0
cleared_seats rows sizes t Astray = t

-- in the tables t without the old row, number n takes the first unused row of archetype a, whose part of the tables is k: that
-- row's place, and what is left
pub record Reseats (k : Block) (sizes : List ℕ) (t : Seats) (a n : ℕ) (run : List ℕ) (place : Place) (left : Seats) : Type 0 where
  pub seats_are : left ≡ seats_of t.archetypes t.indices (seated_rows k sizes t.rows a n run)
  pub place_is : place ≡ place_of a (count_of t.rows a)

-- and the id layer gives the number that place: what it said, and what is left then
pub record Settles (k : Block) (sizes : List ℕ) (t : Seats) (head : Head) (generations pending : List ℕ) (a bits n : ℕ) (run : List ℕ) (said : Result (Option Place) Refusal) (i : Ids) (w : Rows) : Type 0 where
  pub settles : Did (allocating_at (ids_of head generations t.archetypes t.indices pending) bits (place_of a (count_of t.rows a))) (ids_of head generations t.archetypes t.indices pending) (chosen_of said) i
  pub rows_are : w ≡ seated_rows k sizes t.rows a n run
