-- Parts of a list that may be shorter.
-- Assumes nothing.
use Rattle.std.proofs.Common.{◌≡◌, sym, ◌∙◌, List, [], ℕ, ◌+◌, ◌-◌, ◌≤◌, arith, length, take, drop, length-drop}
use Rattle.std.proofs.Math.ListN.{drop_of_length-le}
use Rattle.std.proofs.Math.Seq.{take-nil}
use Rattle.std.proofs.lemmas.List.{take_all}
use Rattle.replay_line.specs.Lines.{line_at}

module _ (list : List ℕ) (at : ℕ) where
  pub past : (count : ℕ) → length list ≤ at → [] ≡ take count (drop at list)
  past count h = rw (drop_of_length-le list h, take-nil {A = ℕ} count)

  pub to_the_end : (count : ℕ) → length list - at ≤ count → take (length list - at) (drop at list) ≡ take count (drop at list)
  to_the_end count h =
      take_all (length list - at) (drop at list) (rw (length-drop at list) (omega arith))
      ∙ sym (take_all count (drop at list) (rw (length-drop at list) h))

  pub within : (count : ℕ) → take (at + count - at) (drop at list) ≡ take count (drop at list)
  within count = let e : at + count - at ≡ count = omega arith in rw e

  pub line_past : length list ≤ at → [] ≡ line_at list at
  unfolding line_at
  line_past h = rw (drop_of_length-le list {i = at + 1} (omega arith), take-nil {A = ℕ} _)
