-- A reservation whose output is long enough, as one run of tests: for callers that reserve without an output.
-- Assumes nothing.
use Prim.{tt}
use Prim.Native.Nat.{ℕ, ◌≤◌}
use mathlib.Core.Path.{◌≡◌}
use mathlib.Core.Bool.{false}
use mathlib.Core.List.{List, [], ◌∷◌, ◌++◌}
use borrow.Author.Tests.{le-ltb}
use lib.Dec.{ltb}
use lib.ListN.{length, drop}
use Rattle.refusal.specs.Table.{◌when◌, ◌or_else◌, ◌otherwise◌}
use Rattle.id_tables.specs.Ids.{Ids, entry, room, any_damaged}
use Rattle.id_batches.specs.Reserve.{recycled, handles, entities_reserved, reserving}
use Rattle.id_batches.proofs.Granted.{fallen_ids}

pub reserving_is : (s : Ids) (n : ℕ) (out : List ℕ) → n ≤ length out
    → reserving s n out ≡ (entry s false or_else (4 when ltb (room s) n ∷ 1 when any_damaged s (recycled s n) ∷ [] otherwise (tt, (fallen_ids s n, handles s n ++ drop n out))))
unfolding reserving entities_reserved
reserving_is s n out h = rw (le-ltb (length out) n h)
