-- A loop that takes a step for each element: what is left of the list decides.
-- Assumes nothing.
use Rattle.std.proofs.Common.{◌≡◌, ap, List, ℕ, ◌+◌, ◌<◌, ◌≤◌, add-one, drop-cons, length, get_or, drop, fold}
use Rattle.std.proofs.Math.ListN.{set, drop_of_length-le}
use Rattle.replay_line.specs.Tables.{placed}

module _ {S V : Type 0} (step : S → V → S) (list : List V) (i : ℕ) (whole s : S) where
  pub turned : (v : V) (t : S) → i < length list → whole ≡ fold step s (drop i list) → t ≡ step s (get_or list i v)
      → whole ≡ fold step t (drop (i + 1) list)
  turned v t h inv e = rw (inv, drop-cons list i v h, add-one i, e)

  pub ended : length list ≤ i → whole ≡ fold step s (drop i list) → s ≡ whole
  ended h inv = rw (inv, drop_of_length-le list h)

-- the same where each step fills the next place of a table
module _ {V T : Type 0} (keeps : V → T) (list : List V) (i : ℕ) (whole : List T × ℕ) (t : List T) where
  pub filled_next : (v : V) (t' : List T) → i < length list → whole ≡ fold (placed keeps) (t, i) (drop i list)
      → t' ≡ set t i (keeps (get_or list i v)) → whole ≡ fold (placed keeps) (t', i + 1) (drop (i + 1) list)
  unfolding placed
  filled_next v t' h inv e = turned (placed keeps) list i whole (t, i) v (t', i + 1) h inv (rw e)

  pub filled_all : length list ≤ i → whole ≡ fold (placed keeps) (t, i) (drop i list) → t ≡ whole.0
  filled_all h inv = ap (λ (s : List T × ℕ). s.0) (ended (placed keeps) list i whole (t, i) h inv)
