-- Reservations one after the other, and spawns one after the other: the handles that they give, and the store that they leave.
use Prim.{Unit}
use Rattle.std.specs.Prelude.{ℕ, zero, suc, ◌+◌, ◌≤◌, List, [], ◌∷◌, ◌++◌, length, take}
use Rattle.refusal.specs.Table.{Answer, granted, refused}
use Rattle.store_tables.specs.Store.{Store}
use Rattle.store_spawn.specs.Spawn.{spawning}
use Rattle.store_reserve.specs.Reserve.{reserving, reserving_many}

-- a single reservation; a batch of n into an output of the caller's; a lookup
pub data Step : Type 0 where
  single : Step
  batch : ℕ → List ℕ → Step
  lookup : Step

-- how many handles the steps ask for
abbrev pub size : List Step → ℕ
size [] = 0
size (single ∷ rest) = 1 + size rest
size (batch n out ∷ rest) = n + size rest
size (lookup ∷ rest) = size rest

-- every output is long enough
abbrev pub LongEnough : List Step → Type 0
LongEnough [] = Unit {0}
LongEnough (single ∷ rest) = LongEnough rest
LongEnough (batch n out ∷ rest) = (n ≤ length out) × LongEnough rest
LongEnough (lookup ∷ rest) = LongEnough rest

-- the one handle that a call gives, and the n that a batch has written to its output
abbrev pub the_one : Answer (ℕ × Store) → Answer (List ℕ × Store)
the_one (granted x) = granted (x.0 ∷ [], x.1)
the_one (refused m) = refused m

abbrev pub the_first : ℕ → Answer (Unit {0} × (Store × List ℕ)) → Answer (List ℕ × Store)
the_first n (granted x) = granted (take n x.1.1, x.1.0)
the_first n (refused m) = refused m

-- one call, then more from what it leaves: the handles of all
abbrev pub before : List ℕ → Answer (List ℕ × Store) → Answer (List ℕ × Store)
before given (granted x) = granted (given ++ x.0, x.1)
before given (refused m) = refused m

infixr 21 ◌and_then◌
abbrev pub ◌and_then◌ : Answer (List ℕ × Store) → (Store → Answer (List ℕ × Store)) → Answer (List ℕ × Store)
granted x and_then more = before x.0 (more x.1)
refused m and_then more = refused m

-- A lookup gives no handle, and its rule leaves no other store.
unfoldable pub step : Step → Store → Answer (List ℕ × Store)
step single s = the_one (reserving s)
step (batch n out) s = the_first n (reserving_many s n out)
step lookup s = granted ([], s)

unfoldable pub run : List Step → Store → Answer (List ℕ × Store)
run [] s = granted ([], s)
run (x ∷ rest) s = step x s and_then run rest

-- n direct spawns into archetype 0, whose rows have no bytes
unfoldable pub spawns : ℕ → Store → Answer (List ℕ × Store)
spawns zero s = granted ([], s)
spawns (suc n) s = the_one (spawning s 0 []) and_then spawns n
