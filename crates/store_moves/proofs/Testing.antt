-- The ways through the tests of a row that is to move, over plain values.
-- Assumes nothing.
use Prim.{tt}
use Prim.Native.Nat.{ℕ, ◌≤◌, ◌<◌}
use mathlib.Core.Path.{◌≡◌}
use mathlib.Core.Bool.{Bool, true, false}
use lib.ListN.{get_or}
use borrow.Author.Tests.{le-leb, lt-leb}
use Rattle.refusal.specs.Table.{granted, refused, ◌or_else◌, passing}
use Rattle.borrow_word.specs.Slice.{any_held}
use Rattle.store_tables.specs.Store.{Store}
use Rattle.store_tables.specs.Seen.{moved_seen}
use Rattle.store_moves.specs.Steps.{move_seen}

module _ (s : Store) (first a r b : ℕ) where
  pub held : any_held s.words ≡ true → refused 8 ≡ passing (move_seen s first a r b)
  unfolding move_seen ◌or_else◌
  held w = rw w

  module _ (w : any_held s.words ≡ false) (room count : ℕ) (p : room ≡ get_or s.decl.rows b 0) (q : count ≡ get_or s.rows.counts b 0) where
    pub no_row : room ≤ count → refused 4 ≡ passing (move_seen s first a r b)
    unfolding move_seen ◌or_else◌
    no_row l = rw (w, ← p, ← q, le-leb _ _ l)

    module _ (l : count < room) (moved : Bool) (m : moved ≡ moved_seen first s.ids.head.used s.ids.archetypes s.ids.indices s.rows.numbers s.rows.counts a r) where
      pub moved_damaged_lem : moved ≡ true → refused 1 ≡ passing (move_seen s first a r b)
      unfolding move_seen ◌or_else◌
      moved_damaged_lem t = rw (w, ← p, ← q, lt-leb _ _ l, ← m, t)

      pub passes : moved ≡ false → granted tt ≡ passing (move_seen s first a r b)
      unfolding move_seen ◌or_else◌
      passes t = rw (w, ← p, ← q, lt-leb _ _ l, ← m, t)
