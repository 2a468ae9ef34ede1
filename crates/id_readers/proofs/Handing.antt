-- The walk of a reader: exactly the handles that reserve n writes, in order, and then none.
-- Assumes nothing.
use Prim.{Unit, tt}
use Prim.Native.Nat.{ℕ, zero, suc, ◌+◌, ◌-◌, ◌<◌, ◌≤◌}
use native.Mathlib.Omega.{arith}
use native.Mathlib.Numerals.{add-one}
use mathlib.Core.Path.{◌≡◌, ◌∙◌}
use mathlib.Core.Bool.{true, false}
use mathlib.Core.List.{List, [], ◌∷◌, ◌++◌}
use mathlib.Core.Option.{none, some}
use borrow.Author.Tests.{ltb-false, ne_eqb}
use lib.Dec.{eqb}
use lib.ListN.{length, get_or, drop}
use lib.Seq.{drop-cons, drop-length, length-slice}
use Rattle.refusal.specs.Table.{Rule, ◌when◌, Answer, granted, refused, ◌or_else◌}
use Rattle.refusal.specs.Laws.{not_refused, passed_all, none_holds, value_of_lem}
use Rattle.id_tables.specs.Head.{free_of}
use Rattle.id_tables.specs.Ids.{Ids}
use Rattle.id_tables.specs.Runs.{up_from, up_from_none, up_from_cons}
use Rattle.id_tables.proofs.Entering.{entry_ok}
use Rattle.id_tables.proofs.Damage.{none_damaged}
use Rattle.id_batches.specs.Reserve.{recycled, old_handles, new_handles, handles, reserving}
use Rattle.id_batches.proofs.Granted.{ReserveManyOk, fallen_ids, reserving_at}
use Rattle.id_batches.proofs.Handed.{old_is, new_is}
use Rattle.id_batches.proofs.Outputs.{reserving_is}
use Rattle.id_readers.specs.Reader.{Reader, reader_at, reader_in, first_new, part_reserved, reserving_part, stepping, left_in}
use Rattle.id_readers.proofs.Ways.{step_old, step_new, step_done}

-- steps over a table of generations give these handles, and then none
pub data Hands (generations : List ℕ) : Reader → List ℕ → Type 0 where
  ended : {w : Reader} → stepping w generations ≡ granted (none, w) → Hands generations w []
  stepped : {w w' : Reader} {h : ℕ} {hs : List ℕ} → stepping w generations ≡ granted (some h, w') → Hands generations w' hs → Hands generations w (h ∷ hs)

-- the new range
module _ (generations part : List ℕ) (position : ℕ) (past : length part ≤ position) where
  hands_new : (number j : ℕ) → Hands generations (reader_at part position number (number + j)) (new_handles (up_from number j))
  hands_new number zero = rw (up_from_none number, new_is) (ended (step_done (reader_at part position number (number + 0)) generations past (omega arith)))
  hands_new number (suc j) =
      let e : number + suc j ≡ number + 1 + j = omega arith in
      rw (up_from_cons number j, new_is) (stepped (step_new (reader_at part position number (number + suc j)) generations past (omega arith)) (rw (← e, new_is) at (hands_new (number + 1) j)))

-- the part, each entry of which has a number with a generation, then the new range
module _ (generations part : List ℕ) (number j : ℕ) (whole : (i : ℕ) → i < length part → (get_or part i 0 < length generations) × (eqb (get_or generations (get_or part i 0) 0) 0 ≡ false)) where
  hands_from : (k position : ℕ) → position + k ≡ length part → Hands generations (reader_at part position number (number + j)) (old_handles generations (drop position part) ++ new_handles (up_from number j))
  hands_from zero position e =
      let q : position ≡ length part = omega arith in
      rw (q, drop-length part, old_is) (hands_new generations part (length part) (omega arith) number j)
  hands_from (suc k) position e =
      let h : position < length part = omega arith in
      let w = whole position h in
      let d : drop position part ≡ get_or part position 0 ∷ drop (position + 1) part = drop-cons part position 0 h ∙ rw (add-one position) in
      let rest = hands_from k (position + 1) (omega arith) in
      rw (d, old_is) (stepped (step_old (reader_at part position number (number + j)) generations h w.0 w.1) (rw old_is at rest))

-- when the reader is made
pub part_ok : (s : Ids) (n : ℕ) {x : Unit {0} × Ids} → granted x ≡ reserving_part s n → ReserveManyOk s n n × (x ≡ (tt, fallen_ids s n))
unfolding reserving_part part_reserved
part_ok s n e =
    let p = passed_all _ _ e in
    let h = none_holds _ (passed_all _ _ p.1).0 in
    (record { ok = entry_ok s _ p.0; places_in = omega arith; room_in = ltb-false _ _ h.0; whole = h.1.0 }, value_of_lem _ _ p.1)

-- its walk hands out the handles of the reservation, n of them
pub hands : (s : Ids) (n places : ℕ) → ReserveManyOk s n places → Hands s.generations (reader_in s n) (handles s n)
hands s n places m =
    let ok = m.ok in
    hands_from s.generations (recycled s n) (first_new s) (n - free_of s.head.cursor)
    (λ i h. let u = none_damaged _ _ _ (recycled s n) m.whole i h in (omega (arith, u.below), ne_eqb _ _ u.generation))
    (length (recycled s n)) 0 (omega arith)

-- Beside reserve n with any output of n places: the same refusals, the same head, and the reader hands out what is written.
module _ (s : Ids) (n : ℕ) (out : List ℕ) (h : n ≤ length out) where
  pub as_granted : {x : Unit {0} × Ids} → granted x ≡ reserving_part s n
      → (reserving s n out ≡ granted (tt, (x.1, handles s n ++ drop n out))) × Hands s.generations (reader_in s n) (handles s n)
  as_granted e =
      let p = part_ok s n e in
      let m = p.0 in
      (rw p.1 (reserving_at s n out (record { ok = m.ok; places_in = h; room_in = m.room_in; whole = m.whole })), hands s n n m)

  same_refusal : {A B : Type 0} {m : ℕ} (rules : List Rule) (a : Answer A) (b : Answer B) → (a ≡ refused m → b ≡ refused m) → (rules or_else a) ≡ refused m → (rules or_else b) ≡ refused m
  unfolding ◌or_else◌
  same_refusal [] a b f e = f e
  same_refusal (k when true ∷ rest) a b f e = cc
  same_refusal (k when false ∷ rest) a b f e = same_refusal rest a b f e

  pub as_refused : {m : ℕ} → reserving_part s n ≡ refused m → reserving s n out ≡ refused m
  unfolding reserving_part part_reserved
  as_refused e =
      reserving_is s n out h ∙ same_refusal _ _ _ (λ q. same_refusal _ _ _ (λ g. absurd (not_refused g)) q) e

pub hands_left : (s : Ids) (n : ℕ) → ReserveManyOk s n n → left_in (reader_in s n) ≡ n
hands_left s n m =
    let ok = m.ok in
    rw (length-slice (free_of s.head.cursor - n) (free_of s.head.cursor) s.pending (omega arith)) (omega arith)
