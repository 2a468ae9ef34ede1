-- What passing the tests of each call gives.
-- Assumes nothing.
use Prim.{tt}
use Prim.Native.Nat.{ℕ, ◌+◌, ◌-◌, ◌<◌, ◌≤◌}
use mathlib.Core.Path.{◌≡◌}
use mathlib.Core.Bool.{true, false}
use native.Mathlib.Omega.{arith}
use borrow.Author.Tests.{lt-ltb, leb-false, ltb-false, not-false}
use Rattle.refusal.specs.Table.{granted, passing}
use Rattle.refusal.specs.Laws.{both, none_holds}
use Rattle.handle.specs.Bits.{MAX}
use Rattle.handle.specs.declared.Place.{Place}
use Rattle.id_tables.specs.declared.head.Head.{Head}
use Rattle.id_tables.specs.Head.{free_of, flushed}
use Rattle.id_tables.specs.Ids.{Ids, entry, capacity, room, live, EntryOk}
use Rattle.id_tables.proofs.Entering.{entry_ok}
use Rattle.id_tables.proofs.Meaning.{Undamaged, undamaged, flushed_free, flushed_new}
use Rattle.ids.specs.Reserve.{last_free}
use Rattle.ids.specs.Alloc.{last_pending, alloc_rules}
use Rattle.ids.specs.AllocAt.{chosen_rules}

-- on flushed tables the room is what is pending and what was never used
pub flushed_room : (s : Ids) → flushed s.head ≡ true → room s ≡ s.head.pending + (capacity s - s.head.used)
flushed_room s f = omega (arith, flushed_free s.head f, flushed_new s.head f)

-- Reserve one
pub record ReserveOk (s : Ids) : Type 0 where
  pub ok : EntryOk s
  pub has_room : 1 ≤ room s
  pub free_good : 0 < free_of s.head.cursor → Undamaged s.head.used s.generations s.indices (last_free s)

-- Alloc
pub record AllocOk (s : Ids) (place : Place) : Type 0 where
  pub ok : EntryOk s
  pub is_flushed : flushed s.head ≡ true
  pub index_in : place.index.0 < MAX
  pub has_room : 1 ≤ room s
  pub last_good : 0 < s.head.pending → Undamaged s.head.used s.generations s.indices (last_pending s)

pub alloc_ok : (s : Ids) (place : Place) → granted tt ≡ passing (alloc_rules s place) → AllocOk s place
unfolding alloc_rules
alloc_ok s place e =
    let b = both (entry s false) _ e in
    let p = none_holds _ b.1 in
    record {
      ok = entry_ok s false b.0;
      is_flushed = not-false _ p.0;
      index_in = leb-false _ _ p.1.0;
      has_room = ltb-false _ _ p.1.1.0;
      last_good = λ k. undamaged _ _ _ _ (simp (lt-ltb 0 s.head.pending k) at p.1.1.1.0);
    }

-- Alloc at, but for the damage of the chosen number
pub record ChosenOk (head : Head) (capacity : ℕ) (place : Place) (n : ℕ) : Type 0 where
  pub is_flushed : flushed head ≡ true
  pub index_in : place.index.0 < MAX
  pub number_in_lem : n < capacity

pub chosen_ok : (head : Head) (capacity : ℕ) (place : Place) (n : ℕ) → granted tt ≡ passing (chosen_rules head capacity place n) → ChosenOk head capacity place n
unfolding chosen_rules
chosen_ok head capacity place n e =
    let p = none_holds _ e in
    record { is_flushed = not-false _ p.0; index_in = leb-false _ _ p.1.0; number_in_lem = leb-false _ _ p.1.1.0 }

-- Free
pub record FreeOk (s : Ids) (g n : ℕ) : Type 0 where
  pub ok : EntryOk s
  pub is_flushed : flushed s.head ≡ true
  pub lives : live s g n ≡ true
  pub some_live : s.head.live ≡ 0 → ⊥
