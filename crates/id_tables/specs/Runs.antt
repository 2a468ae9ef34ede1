-- Runs of numbers: ascending ones, and those that have one past a limit.
use Rattle.std.specs.Prelude.{◌≡◌, ℕ, zero, suc, ◌+◌, ◌<◌, Bool, false, ◌||◌, List, [], ◌∷◌, length, nat_le, slice_index, refl}
use Rattle.std.proofs.Common.{ap, ◌∙◌, arith, not-suc-le-zero, le_of_suc-le-suc}

-- k numbers from n up
unfoldable pub up_from : ℕ → ℕ → List ℕ
up_from n zero = []
up_from n (suc k) = n ∷ up_from (n + 1) k

pub up_from_none : (n : ℕ) → up_from n 0 ≡ []
unfolding up_from
up_from_none n = refl

pub up_from_cons : (n k : ℕ) → up_from n (suc k) ≡ n ∷ up_from (n + 1) k
unfolding up_from
up_from_cons n k = refl

pub length_up_from : (n k : ℕ) → length (up_from n k) ≡ k
unfolding up_from
length_up_from n zero = refl
length_up_from n (suc k) = ap suc (length_up_from (n + 1) k)

pub up_from_at : (n k i : ℕ) → i < k → slice_index (up_from n k) i ≡ n + i
unfolding up_from
up_from_at n zero i h = absurd (not-suc-le-zero h)
up_from_at n (suc k) zero h = omega arith
up_from_at n (suc k) (suc i) h = up_from_at (n + 1) k i (le_of_suc-le-suc h) ∙ omega arith

-- one of these is n or more: a step's promise, of which no rule speaks
unfoldable pub any_past : ℕ → List ℕ → Bool
any_past n [] = false
any_past n (m ∷ ms) = nat_le n m || any_past n ms
