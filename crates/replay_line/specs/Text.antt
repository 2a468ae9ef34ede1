-- The numbers of a text: hexadecimal digits, and one other byte after each number.
use Rattle.std.specs.Prelude.{ℕ, ◌+◌, ◌-◌, ◌*◌, ◌%◌, ◌^◌, cond, List, ltb, length, set, fold, Option, Some, None}

-- 0 to 9 and a to f; 16 for any other byte
unfoldable pub digit_of : ℕ → ℕ
digit_of b = cond (ltb b 48) 16 (cond (ltb b 58) (b - 48) (cond (ltb b 97) 16 (cond (ltb b 103) (b - 87) 16)))

-- what is read of a byte: none is 16
abbrev pub digit_in : Option ℕ → ℕ
digit_in (Some d) = d
digit_in None = 16

-- the last sixteen digits count
unfoldable pub with_digit : ℕ → ℕ → ℕ
with_digit v d = v % 2 ^ 60 * 16 + d

-- the table, how many of its places are filled, and the value of the digits since then
pub record Reading : Type 0 where
  pub table : List ℕ
  pub count : ℕ
  pub value : ℕ

abbrev pub reading : List ℕ → ℕ → ℕ → Reading
reading t n v = record { table = t; count = n; value = v }

-- a number has ended, and has a place or none
unfoldable pub stored : Reading → Reading
stored s = cond (ltb s.count (length s.table)) (reading (set s.table s.count s.value) (s.count + 1) 0) (reading s.table s.count 0)

unfoldable pub read : Reading → ℕ → Reading
read s b = cond (ltb (digit_of b) 16) (reading s.table s.count (with_digit s.value (digit_of b))) (stored s)

unfoldable pub read_from : List ℕ → List ℕ → Reading
read_from text table = fold read (reading table 0 0) text
