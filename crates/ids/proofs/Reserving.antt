-- The ways through the rule of a reservation, over plain values.
-- Assumes nothing.
use Prim.{tt}
use Prim.Native.Nat.{ℕ, ◌+◌, ◌-◌, ◌<◌, ◌≤◌}
use mathlib.Core.Path.{◌≡◌, refl, ◌∙◌}
use mathlib.Core.Bool.{true, false}
use native.Mathlib.Omega.{arith}
use native.Mathlib.Nat.{pos_of_ne-zero}
use borrow.Author.Tests.{lt-ltb, le-ltb}
use lib.Dec.{lit<}
use lib.ListN.{get_or}
use Rattle.std.specs.Prelude.{Result}
use Rattle.refusal.specs.Table.{granted, refused, ◌or_else◌, passing, Did}
use Rattle.refusal.specs.Laws.{go, stops, past, passed_all, value_of_lem, grant}
use Rattle.refusal.specs.declared.Refusal.{Refusal}
use Rattle.handle.specs.Bits.{handle_of, new_handle}
use Rattle.handle.specs.declared.Handle.{Handle}
use Rattle.id_tables.specs.declared.head.Head.{Head}
use Rattle.id_tables.specs.Head.{free_of, new_of, fallen_fit}
use Rattle.id_tables.specs.Ids.{Ids, ids_of, entry, capacity, room, damaged, generation_at, EntryOk}
use Rattle.id_tables.proofs.Entering.{entry_ok}
use Rattle.id_tables.proofs.Falling.{falls_in}
use Rattle.id_tables.proofs.Meaning.{undamaged}
use Rattle.ids.specs.Reserve.{next_reserved, reserving}
use Rattle.ids.proofs.Giving.{made, makes_handle}

module _ (s : Ids) (ok : EntryOk s) (free : ℕ) (f : free ≡ free_of s.head.cursor) where
  -- no entry is free
  module _ (new : ℕ) (n : new ≡ new_of s.head.cursor) (z : free ≡ 0) where
    pub no_number : capacity s ≤ s.head.used + new → refused 4 ≡ next_reserved s
    unfolding next_reserved ◌or_else◌
    no_number h = simp (lt-ltb (room s) 1 (omega arith))

    pub new_number : (r : Result Handle Refusal) → s.head.used + new < capacity s → handle_of r ≡ new_handle (s.head.used + new) 1
        → handle_of r ≡ next_reserved s
    unfolding next_reserved ◌or_else◌
    new_number r h e = made r _ 1 e (lit< tt) ∙ simp (le-ltb (room s) 1 (omega arith), le-ltb 0 (free_of s.head.cursor) (omega arith), n)

  -- pending[c - 1]
  module _ (number : ℕ) (p : number ≡ get_or s.pending (free - 1) 0) (z : free ≡ 0 → ⊥) where
    some_free : 0 < free_of s.head.cursor
    some_free = pos_of_ne-zero (λ q. z (f ∙ q))

    pub damaged_number : damaged s number ≡ true → refused 1 ≡ next_reserved s
    unfolding next_reserved ◌or_else◌
    damaged_number d = simp (le-ltb (room s) 1 (omega (arith, some_free)), lt-ltb 0 (free_of s.head.cursor) some_free, ← f, ← p, d)

    pub free_number : (r : Result Handle Refusal) (generation : ℕ) → damaged s number ≡ false → generation ≡ generation_at s number
        → handle_of r ≡ new_handle number generation → handle_of r ≡ next_reserved s
    unfolding next_reserved ◌or_else◌
    free_number r generation d g e =
        made r number generation e (makes_handle (undamaged _ _ _ _ d) refl g)
        ∙ simp (le-ltb (room s) 1 (omega (arith, some_free)), lt-ltb 0 (free_of s.head.cursor) some_free, ← f, ← p, d, g)

-- past the first tests: the handle, and the cursor falls by 1
module _ (s : Ids) (e : granted tt ≡ passing (entry s false)) where
  pub reserve_refused : {m : ℕ} → refused m ≡ next_reserved s → reserving s ≡ refused m
  unfolding reserving next_reserved
  reserve_refused h = go (entry s false) _ _ e ∙ stops _ _ _ h

  pub reserve_did : {bits : ℕ} (left : Head) → granted bits ≡ next_reserved s → left ≡ fallen_fit s.head 1
      → Did (reserving s) s (granted bits) (ids_of left s.generations s.archetypes s.indices s.pending)
  unfolding reserving next_reserved
  reserve_did left h l =
      rw (l ∙ falls_in s 1 (entry_ok s false e) (lit< tt)) (grant (go (entry s false) _ _ e ∙ past _ _ (passed_all _ _ h).0 ∙ rw (value_of_lem _ _ h)))
