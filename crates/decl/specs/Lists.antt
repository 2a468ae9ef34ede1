-- What the rules say of lists of numbers, and of the numbers below a bound.
use Rattle.std.specs.Prelude.{ℕ, zero, suc, ◌+◌, Bool, true, false, ◌&&◌, ◌||◌, List, [], ◌∷◌, ltb, eqb, get_or, take, drop}

unfoldable pub sum : List ℕ → ℕ
sum [] = 0
sum (x ∷ xs) = x + sum xs

-- where part a begins, of parts of these lengths that follow each other
unfoldable pub first_of : List ℕ → ℕ → ℕ
first_of lengths a = sum (take a lengths)

-- part a of xs
unfoldable pub part_of : List ℕ → List ℕ → ℕ → List ℕ
part_of lengths xs a = take (get_or lengths a 0) (drop (first_of lengths a) xs)

-- a number above max
unfoldable pub any_above : ℕ → List ℕ → Bool
any_above max [] = false
any_above max (x ∷ xs) = ltb max x || any_above max xs

-- strictly ascending
unfoldable pub rising : List ℕ → Bool
rising [] = true
rising (x ∷ []) = true
rising (x ∷ y ∷ rest) = ltb x y && rising (y ∷ rest)

-- the same list
unfoldable pub same : List ℕ → List ℕ → Bool
same [] [] = true
same [] (y ∷ ys) = false
same (x ∷ xs) [] = false
same (x ∷ xs) (y ∷ ys) = eqb x y && same xs ys

-- p holds at a number below n
unfoldable pub any_below : ℕ → (ℕ → Bool) → Bool
any_below zero p = false
any_below (suc n) p = any_below n p || p n

-- p holds of two numbers a < b below n
unfoldable pub any_pair : ℕ → (ℕ → ℕ → Bool) → Bool
any_pair n p = any_below n (λ b. any_below b (λ a. p a b))
