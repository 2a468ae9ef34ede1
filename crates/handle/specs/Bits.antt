-- What the bits of a handle say, and what the two calls that make a handle answer.
use Rattle.std.specs.Prelude.{ℕ, ◌+◌, ◌*◌, ◌/◌, ◌%◌, ◌^◌, [], ◌∷◌, eqb, Result}
use Rattle.refusal.specs.declared.Refusal.{Refusal}
use Rattle.refusal.specs.Table.{Answer, answer_by, ◌when◌, ◌otherwise◌}
use Rattle.handle.specs.declared.Place.{Place}
use Rattle.handle.specs.declared.Handle.{Handle}

-- the largest 32-bit number: the index of a number that has no row
abbrev pub MAX : ℕ
MAX = 4294967295

abbrev pub place_of : ℕ → ℕ → Place
place_of archetype index = record { archetype = archetype; index = record { 0 = index } }

-- the generation in the high half, the number in the low half
abbrev pub bits_of : ℕ → ℕ → ℕ
bits_of generation number = generation * 2 ^ 32 + number

abbrev pub generation_in : ℕ → ℕ
generation_in bits = bits / 2 ^ 32

abbrev pub number_in : ℕ → ℕ
number_in bits = bits % 2 ^ 32

-- the document's number and value of a handle or a refusal: the handle's bits, or the refusal's number
abbrev pub handle_of : Result Handle Refusal → Answer ℕ
handle_of = answer_by (λ h. h.0)

-- a handle whose high half is zero is refused
unfoldable pub from_bits : ℕ → Answer ℕ
from_bits bits = 5 when eqb (generation_in bits) 0 ∷ [] otherwise bits

-- and none is made of a number with generation 0
unfoldable pub new_handle : ℕ → ℕ → Answer ℕ
new_handle number generation = 5 when eqb generation 0 ∷ [] otherwise bits_of generation number
