-- The handles that a reservation hands out: n of them, of numbers that differ and are not live.
-- Assumes nothing.
use Prim.Native.Nat.{ℕ, suc, ◌+◌, ◌-◌, ◌^◌, ◌<◌, ◌≤◌}
use mathlib.Core.Path.{◌≡◌, refl, sym, ap, ◌∙◌}
use mathlib.Core.Bool.{true, false}
use mathlib.Core.List.{List, [], ◌∷◌, ◌++◌, map, map-append}
use native.Mathlib.Omega.{arith}
use lib.ListN.{length, get_or, length-append, length-map, get_or-map}
use lib.Seq.{slice, length-slice, slice-cons, slice_empty}
use Rattle.handle.specs.Bits.{bits_of, generation_in, number_in}
use Rattle.handle.specs.RoundTrip.{generation_back, number_back}
use Rattle.id_tables.specs.Head.{free_of, new_of}
use Rattle.id_tables.specs.Ids.{Ids, capacity, generation_at, live, EntryOk}
use Rattle.id_tables.specs.Runs.{up_from_none, up_from_cons, length_up_from, up_from_at}
use Rattle.id_tables.proofs.Meaning.{past_not_live, empty_not_live}
use Rattle.id_tables.specs.Lookup.{is_contained}
use Rattle.id_tables.proofs.Falling.{free_fallen, new_fallen, fallen_ok}
use Rattle.id_tables.proofs.Laws.{any_at, is_old, is_new_lem, old_contained, new_contained}
use Rattle.id_tables.proofs.Damage.{none_damaged}
use Rattle.id_batches.specs.Reserve.{recycled, fresh, old_handles, new_handles, handles}
use Rattle.id_batches.proofs.Numbers.{Each, Different, PendingDiffer, each_two, each_map, slice_at, slice_different, up_each, new_last}
use Rattle.id_batches.proofs.Granted.{ReserveManyOk, fallen_ids}

-- each handle is its generation and its number
pub old_is : (generations ns : List ℕ) → old_handles generations ns ≡ map (λ n. bits_of (get_or generations n 0) n) ns
unfolding old_handles
old_is generations ns = refl

pub new_is : (ns : List ℕ) → new_handles ns ≡ map (bits_of 1) ns
unfolding new_handles
new_is ns = refl

-- the numbers of small numbers' handles are those
numbers_of : (f : ℕ → ℕ) (ns : List ℕ) → Each (λ n. n < 2 ^ 32) ns → map number_in (map (λ n. bits_of (f n) n) ns) ≡ ns
numbers_of f [] e = refl
numbers_of f (n ∷ ns) e = rw (number_back (f n) n (e 0 (omega arith)), numbers_of f ns (λ i h. e (suc i) (omega arith)))

-- how many entries are free, and the next new number
abbrev free : Ids → ℕ
free s = free_of s.head.cursor

abbrev next : Ids → ℕ
next s = s.head.used + new_of s.head.cursor

-- the numbers that a reservation of n takes
abbrev pub taken : Ids → ℕ → List ℕ
taken s n = recycled s n ++ fresh s n

module _ (s : Ids) (n places : ℕ) (m : ReserveManyOk s n places) where
  free_in : free s ≤ length s.pending
  free_in = let ok = m.ok in omega arith

  old_below : Each (λ k. k < s.head.used) (recycled s n)
  old_below i h = (none_damaged _ _ _ (recycled s n) m.whole i h).below

  old_in : Each (λ k. k < capacity s) (recycled s n)
  old_in i h = let ok = m.ok in omega (arith, old_below i h)

  new_in : Each (λ k. k < capacity s) (fresh s n)
  new_in =
      let ok = m.ok in
      let r = m.room_in in
      up_each (next s) (n - free s) (λ k. k < capacity s) (λ i h. omega arith)

  pub taken_in : Each (λ k. k < capacity s) (taken s n)
  taken_in = each_two (λ k. k < capacity s) (recycled s n) (fresh s n) old_in new_in

  pub taken_long : length (taken s n) ≡ n
  taken_long =
      rw (length-append, length-slice (free s - n) (free s) s.pending free_in, length_up_from) (omega arith)

  pub taken_different : PendingDiffer s → Different (taken s n)
  taken_different d =
      let ok = m.ok in
      new_last (next s) (n - free s) (recycled s n)
      (slice_different (free s - n) (free s) s.pending free_in (λ i j h k. d i j h (omega arith)))
      (λ i h. omega (arith, old_below i h))

  pub reserved_ok : EntryOk (fallen_ids s n)
  reserved_ok = fallen_ok s n m.ok m.room_in

  -- a recycled number has no place, and a new one is not below used
  pub taken_not_live : (g : ℕ) → Each (λ k. live s g k ≡ false) (taken s n)
  taken_not_live g =
      each_two (λ k. live s g k ≡ false) (recycled s n) (fresh s n)
      (λ i h. empty_not_live _ _ _ g _ (none_damaged _ _ _ (recycled s n) m.whole i h).index)
      (up_each (next s) (n - free s) (λ k. live s g k ≡ false) (λ i h. past_not_live _ _ _ g _ (omega arith)))

  -- the handles are those of these numbers, in order
  pub handles_numbers : map number_in (handles s n) ≡ taken s n
  handles_numbers =
      let ok = m.ok in
      map-append number_in (old_handles s.generations (recycled s n)) (new_handles (fresh s n))
      ∙ rw (old_is s.generations (recycled s n), new_is (fresh s n), numbers_of (λ k. generation_at s k) (recycled s n) (λ i h. omega (arith, old_in i h)), numbers_of (λ k. 1) (fresh s n) (λ i h. omega (arith, new_in i h)))

  pub handles_long : length (handles s n) ≡ n
  handles_long = sym (length-map (handles s n) number_in) ∙ ap length handles_numbers ∙ taken_long

  pub handle_number : (i : ℕ) → number_in (get_or (handles s n) i 0) ≡ get_or (taken s n) i 0
  handle_number i = sym (get_or-map number_in (handles s n) i 0) ∙ ap (λ (l : List ℕ). get_or l i 0) handles_numbers

  -- no two handles of one number, on tables whose pending numbers differ, and none of a live number
  pub handles_different : PendingDiffer s → (i j : ℕ) → i < j → j < n → number_in (get_or (handles s n) i 0) ≡ number_in (get_or (handles s n) j 0) → ⊥
  handles_different d i j h k e = taken_different d i j h (rw taken_long k) (sym (handle_number i) ∙ e ∙ handle_number j)

  pub handles_not_live : (g i : ℕ) → i < n → live s g (number_in (get_or (handles s n) i 0)) ≡ false
  handles_not_live g i h = rw (handle_number i) (taken_not_live g i (rw taken_long h))

  -- each handle is contained now: a recycled number stands past the free entries, and a new one is within the reserved ones
  abbrev Held : ℕ → Type 0
  Held h = is_contained (fallen_ids s n) (generation_in h) (number_in h) ≡ true

  old_held : Each (λ k. Held (bits_of (generation_at s k) k)) (recycled s n)
  old_held i h =
      let ok = m.ok in
      let k = get_or (recycled s n) i 0 in
      let f = free_fallen s.head.cursor n in
      let l : k < s.head.used = old_below i h in
      let j : i < length (slice (free s - n) s.head.pending s.pending) = rw (length-slice (free s - n) s.head.pending s.pending (omega arith)) (omega (arith, length-slice (free s - n) (free s) s.pending free_in)) in
      let e : get_or (slice (free s - n) s.head.pending s.pending) i 0 ≡ k =
      slice_at (free s - n) s.head.pending s.pending (omega arith) i j ∙ sym (slice_at (free s - n) (free s) s.pending free_in i h)
      in
      rw (generation_back (generation_at s k) k (omega arith), number_back (generation_at s k) k (omega arith))
      (old_contained _ _ _ (is_old _ _ _ (record { below = l; generation = refl; listed = rw f (any_at _ _ i j e) })))

  new_held : Each (λ k. Held (bits_of 1 k)) (fresh s n)
  new_held i h =
      let ok = m.ok in
      let k = get_or (fresh s n) i 0 in
      let f = new_fallen s.head.cursor n in
      let e : k ≡ next s + i = up_from_at _ _ i (omega (arith, length_up_from (next s) (n - free s))) in
      rw (generation_back 1 k (omega (arith, new_in i h)), number_back 1 k (omega (arith, new_in i h)))
      (new_contained (fallen_ids s n) 1 k (is_new_lem (fallen_ids s n) 1 k (record { generation = refl; past_used = omega arith; within = omega (arith, length_up_from (next s) (n - free s)) })))

  pub handles_contained : Each (λ h. is_contained (fallen_ids s n) (generation_in h) (number_in h) ≡ true) (handles s n)
  handles_contained =
      each_two Held (old_handles s.generations (recycled s n)) (new_handles (fresh s n))
      (rw (old_is s.generations (recycled s n)) (each_map Held _ (recycled s n) old_held)) (rw (new_is (fresh s n)) (each_map Held (bits_of 1) (fresh s n) new_held))

-- a batch of one: the last of the free entries, or where none is free the next new number
module _ (s : Ids) (ok : EntryOk s) where
  abbrev top : ℕ
  top = get_or s.pending (free_of s.head.cursor - 1) 0

  pub one_old : 0 < free_of s.head.cursor → handles s 1 ≡ bits_of (generation_at s top) top ∷ []
  one_old h =
      let e : 1 - free s ≡ 0 = omega arith in
      let t : suc (free s - 1) ≡ free s = omega arith in
      rw (e, up_from_none, slice-cons (free s - 1) (free s) s.pending 0 (omega arith) (omega arith), t, slice_empty, old_is, new_is)

  pub one_new : free_of s.head.cursor ≡ 0 → handles s 1 ≡ bits_of 1 (s.head.used + new_of s.head.cursor) ∷ []
  one_new e = rw (e, up_from_cons (next s) 0, up_from_none, old_is, new_is)
