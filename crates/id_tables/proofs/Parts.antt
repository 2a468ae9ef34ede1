-- A lent part of a slice.
-- Assumes nothing.
use Rattle.std.proofs.Common.{◌≡◌, ℕ, zero, suc, ◌-◌, List, [], ◌∷◌, take, drop}
use native.Mathlib.Nat.{sub-zero, zero-sub, suc-sub-suc}
use lib.Seq.{slice, take-nil}

abbrev pub part : ℕ → ℕ → List ℕ → List ℕ
part from to l = take (to - from) (drop from l)

pub part_is : (from to : ℕ) (l : List ℕ) → part from to l ≡ slice from to l
part_is zero to l = rw (sub-zero to)
part_is (suc from) zero l = rw (zero-sub (suc from))
part_is (suc from) (suc to) [] = rw (take-nil (suc to - suc from))
part_is (suc from) (suc to) (x ∷ l) = rw (suc-sub-suc to from) (part_is from to l)
