-- The walk of what an alloc many placed: exactly those numbers, in order, and then none.
-- Assumes nothing.
use Prim.Native.Nat.{ℕ, zero, suc, ◌+◌, ◌-◌, ◌≤◌}
use mathlib.Core.Path.{◌≡◌, ◌∙◌}
use mathlib.Core.List.{List, [], ◌∷◌, ◌++◌}
use mathlib.Core.Option.{none, some}
use native.Mathlib.Omega.{arith}
use native.Mathlib.Nat.{add-zero}
use native.Mathlib.Numerals.{add-one}
use lib.ListN.{length, get_or}
use lib.Seq.{slice, slice-cons, slice_empty}
use Rattle.refusal.specs.Table.{granted}
use Rattle.id_tables.specs.Ids.{Ids, EntryOk}
use Rattle.id_tables.specs.Runs.{up_from, up_from_none, up_from_cons}
use Rattle.id_batches.specs.declared.many.AllocManyState.{AllocManyState}
use Rattle.id_batches.specs.AllocMany.{last_pending, new_numbers, state_of, many_state, walking, left_in}
use Rattle.id_batches.proofs.Ways.{walk_old, walk_new, walk_done}

-- steps over a pending table give these numbers, and then none
pub data Walks (pending : List ℕ) : AllocManyState → List ℕ → Type 0 where
  ended : {w : AllocManyState} → walking w pending ≡ granted (none, w) → Walks pending w []
  stepped : {w w' : AllocManyState} {n : ℕ} {ns : List ℕ} → walking w pending ≡ granted (some n, w') → Walks pending w' ns → Walks pending w (n ∷ ns)

module _ (pending : List ℕ) (position top : ℕ) where
  walk_fresh : (number j : ℕ) → top ≤ position → Walks pending (state_of position top number (number + j)) (up_from number j)
  walk_fresh number zero h = rw (up_from_none number) (ended (walk_done (state_of position top number (number + 0)) pending h (omega arith)))
  walk_fresh number (suc j) h =
      let e : number + suc j ≡ number + 1 + j = omega arith in
      rw (up_from_cons number j) (stepped (walk_new (state_of position top number (number + suc j)) pending h (omega arith)) (rw (← e) at (walk_fresh (number + 1) j h)))

walk_both : (pending : List ℕ) (number j k position : ℕ) → position + k ≤ length pending
    → Walks pending (state_of position (position + k) number (number + j)) (slice position (position + k) pending ++ up_from number j)
walk_both pending number j zero position h = rw (add-zero position, slice_empty position pending) (walk_fresh pending position position number j (omega arith))
walk_both pending number j (suc k) position h =
    let e : position + suc k ≡ position + 1 + k = omega arith in
    let q : slice position (position + suc k) pending ≡ get_or pending position 0 ∷ slice (position + 1) (position + suc k) pending = slice-cons position (position + suc k) pending 0 (omega arith) h ∙ rw (add-one position) in
    rw q
    (stepped (walk_old (state_of position (position + suc k) number (number + j)) pending (omega arith) (omega arith)) (rw (← e) at (walk_both pending number j k (position + 1) (omega arith))))

-- alloc many leaves the pending table as it was, so this is the walk over what it left
pub walks : (s : Ids) (n : ℕ) → EntryOk s → Walks s.pending (many_state s n) (last_pending s n ++ new_numbers s n)
walks s n ok =
    let e : s.head.pending - n + (s.head.pending - (s.head.pending - n)) ≡ s.head.pending = omega arith in
    rw e at (walk_both s.pending s.head.used (n - s.head.pending) (s.head.pending - (s.head.pending - n)) (s.head.pending - n) (omega arith))

pub walk_left : (s : Ids) (n : ℕ) → left_in (many_state s n) ≡ n
walk_left s n = omega arith
