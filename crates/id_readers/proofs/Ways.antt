-- The ways through the rules, over plain values.
-- Assumes nothing.
use Prim.{tt}
use Prim.Native.Nat.{ℕ, ◌+◌, ◌-◌, ◌<◌, ◌≤◌}
use native.Mathlib.Omega.{arith}
use mathlib.Core.Path.{◌≡◌}
use mathlib.Core.Bool.{true, false}
use mathlib.Core.List.{List}
use mathlib.Core.Option.{none, some}
use borrow.Author.Tests.{lt-ltb, le-ltb, le-leb, lt-leb}
use lib.Dec.{eqb}
use lib.ListN.{length, get_or}
use Rattle.refusal.specs.Table.{granted, refused, ◌or_else◌, passing, Did}
use Rattle.refusal.specs.Laws.{grant, past, halted}
use Rattle.handle.specs.Bits.{bits_of}
use Rattle.id_tables.specs.declared.head.Head.{Head}
use Rattle.id_tables.specs.Head.{free_of, new_of, fallen_fit}
use Rattle.id_tables.specs.Ids.{Ids, ids_of, entry, room, any_damaged, EntryOk}
use Rattle.id_tables.proofs.Falling.{falls_in}
use Rattle.id_tables.proofs.Parts.{part, part_is}
use Rattle.id_readers.specs.Reader.{Reader, reader_at, part_reserved, reserving_part, span_reserved, reserving_span, span_at, number_here, stepping}

-- a reservation as its span
module _ (s : Ids) (n : ℕ) where
  pub span_untested : {m : ℕ} → refused m ≡ passing (entry s false) → reserving_span s n ≡ refused m
  unfolding reserving_span reserving_part
  span_untested e = rw (halted (entry s false) (part_reserved s n) e)

  pub span_tested : granted tt ≡ passing (entry s false) → reserving_span s n ≡ span_reserved s n
  unfolding reserving_span reserving_part span_reserved
  span_tested e = rw (past (entry s false) (part_reserved s n) e)

  module _ (free fresh : ℕ) (f : free ≡ free_of s.head.cursor) (k : fresh ≡ new_of s.head.cursor) where
    pub span_full : free + (length s.generations - (s.head.used + fresh)) < n → span_reserved s n ≡ refused 4
    unfolding span_reserved part_reserved ◌or_else◌
    span_full h = simp (lt-ltb (room s) n (omega arith))

    module _ (r : n ≤ free + (length s.generations - (s.head.used + fresh))) (from : ℕ) (m : from ≡ free - n) where
      pub span_damaged : any_damaged s (part from free s.pending) ≡ true → span_reserved s n ≡ refused 1
      unfolding span_reserved part_reserved ◌or_else◌
      span_damaged d = simp (le-ltb (room s) n (omega arith), rw (part_is from free s.pending, m, f) at d)

      pub span_done : (head : Head) (count : ℕ) → EntryOk s → any_damaged s (part from free s.pending) ≡ false → count ≡ n - free → head ≡ fallen_fit s.head n
          → Did (span_reserved s n) s (granted (span_at from free (s.head.used + fresh) (s.head.used + fresh + count))) (ids_of head s.generations s.archetypes s.indices s.pending)
      unfolding span_reserved part_reserved ◌or_else◌
      span_done head count ok d q h =
          rw (h, falls_in s n ok (omega arith), q, m, f, k)
          (grant (simp (le-ltb (room s) n (omega arith), rw (part_is from free s.pending, m, f) at d)))

-- a step
module _ (w : Reader) (generations : List ℕ) where
  pub step_short : w.position < length w.recycled → length generations ≤ number_here w → stepping w generations ≡ refused 13
  unfolding stepping ◌or_else◌
  step_short h k = simp (lt-ltb _ _ h, le-leb _ _ k)

  module _ (h : w.position < length w.recycled) (k : number_here w < length generations) where
    pub step_zero : eqb (get_or generations (number_here w) 0) 0 ≡ true → stepping w generations ≡ refused 1
    unfolding stepping ◌or_else◌
    step_zero z = simp (lt-ltb _ _ h, lt-leb _ _ k, z)

    pub step_old : eqb (get_or generations (number_here w) 0) 0 ≡ false
        → stepping w generations ≡ granted (some (bits_of (get_or generations (number_here w) 0) (number_here w)), reader_at w.recycled (w.position + 1) w.number w.end)
    unfolding stepping ◌or_else◌
    step_old z = simp (lt-ltb _ _ h, lt-leb _ _ k, z)

  module _ (h : length w.recycled ≤ w.position) where
    pub step_new : w.number < w.end → stepping w generations ≡ granted (some (bits_of 1 w.number), reader_at w.recycled w.position (w.number + 1) w.end)
    unfolding stepping ◌or_else◌
    step_new k = simp (le-ltb _ _ h, lt-ltb _ _ k)

    pub step_done : w.end ≤ w.number → stepping w generations ≡ granted (none, w)
    unfolding stepping ◌or_else◌
    step_done k = simp (le-ltb _ _ h, le-ltb _ _ k)
