-- Lists with something put in or taken out at a place, and the first number at which a test holds.
use Rattle.std.specs.Prelude.{ℕ, zero, suc, ◌+◌, Bool, cond, List, ◌++◌, take, drop}
use Rattle.std.proofs.Math.Option.{Option, none, some}

-- xs with ys put in at a place
unfoldable pub put_in : ℕ → List ℕ → List ℕ → List ℕ
put_in at ys xs = take at xs ++ (ys ++ drop at xs)

-- xs with n elements taken out at a place
unfoldable pub taken_out : ℕ → ℕ → List ℕ → List ℕ
taken_out at n xs = take at xs ++ drop (at + n) xs

abbrev pub or_next : Option ℕ → Option ℕ → Option ℕ
or_next none next = next
or_next (some a) next = some a

-- the first number below n at which p holds
unfoldable pub first_below : ℕ → (ℕ → Bool) → Option ℕ
first_below zero p = none
first_below (suc n) p = or_next (first_below n p) (cond (p n) (some n) none)
