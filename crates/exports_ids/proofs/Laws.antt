-- A walking state as it crosses.
-- Assumes nothing.
use Prim.Native.Nat.{ℕ}
use mathlib.Core.Path.{◌≡◌, refl}
use mathlib.Core.List.{List}
use lib.ListN.{get_or}
use Rattle.id_batches.specs.declared.many.AllocManyState.{AllocManyState}
use Rattle.id_batches.specs.AllocMany.{state_of}
use Rattle.exports_ids.specs.State.{state_four, state_in}

pub state_back : (w : AllocManyState) → state_in (state_four w) ≡ w
unfolding state_in
state_back w = refl

pub state_read : (ws : List ℕ) → state_of (get_or ws 0 0) (get_or ws 1 0) (get_or ws 2 0) (get_or ws 3 0) ≡ state_in ws
unfolding state_in
state_read ws = refl
