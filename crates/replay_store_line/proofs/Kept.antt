-- A table kept in a list of tables.
-- Assumes nothing.
use Rattle.std.proofs.Common.{ℕ, ◌-◌, ◌<◌, ◌≤◌, ◌≡◌, List, ◌++◌, arith, length, take, drop, length-drop}
use Rattle.std.proofs.Math.ListN.{drop_of_length-le}
use Rattle.std.proofs.lemmas.List.{take_all, append-nil}
use Rattle.std.proofs.lemmas.Bool.{lt-ltb, le-ltb}
use Rattle.replay_line.specs.Tables.{filled}
use Rattle.replay_store_line.specs.Store.{kept}

module _ {V T : Type 0} (keeps : V → T) (tables : List T) (at : ℕ) (values : List V) where
  pub within : (left : List T) → at < length tables → left ≡ filled keeps (take (length tables - at) (drop at tables)) values
      → take at tables ++ (left ++ drop (length tables - at) (drop at tables)) ≡ kept keeps tables at values
  unfolding kept
  within left h e =
      rw (lt-ltb at (length tables) h, e, take_all (length tables - at) (drop at tables) (rw (length-drop at tables) (omega arith)), drop_of_length-le (drop at tables) {i = length tables - at} (rw (length-drop at tables) (omega arith)), append-nil (filled keeps (drop at tables) values))

  pub past : length tables ≤ at → tables ≡ kept keeps tables at values
  unfolding kept
  past h = rw (le-ltb at (length tables) h)
