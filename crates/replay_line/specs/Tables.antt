-- A table that is filled from numbers, and the digest of a table.
use Rattle.std.specs.Prelude.{ℕ, ◌+◌, ◌*◌, ◌/◌, ◌%◌, ◌^◌, List, set, fold}

-- what a table of words, of 32-bit numbers or of bytes keeps of a value
abbrev pub words : ℕ → ℕ
words v = v

abbrev pub numbers : ℕ → ℕ
numbers v = v % 2 ^ 32

abbrev pub bytes : ℕ → ℕ
bytes v = v % 2 ^ 8

-- the next place, if there is one, holds the value
unfoldable pub placed : {V T : Type 0} → (V → T) → List T × ℕ → V → List T × ℕ
placed keeps s v = (set s.0 s.1 (keeps v), s.1 + 1)

unfoldable pub filled : {V T : Type 0} → (V → T) → List T → List V → List T
filled keeps table values = (fold (placed keeps) (table, 0) values).0

-- the factor and the modulus are primes below 2 ^ 20 and 2 ^ 43, so that 64 bits hold the sum
unfoldable pub mixed : ℕ → ℕ → ℕ
mixed digest v = digest % 8796093022151 * 1048573 + v

-- of a word, the high half and then the low half
unfoldable pub mixed_word : ℕ → ℕ → ℕ
mixed_word digest v = mixed (mixed digest (v / 2 ^ 32 % 2 ^ 32)) (v % 2 ^ 32)

unfoldable pub mixed_low : ℕ → ℕ → ℕ
mixed_low digest v = mixed digest (v % 2 ^ 32)
