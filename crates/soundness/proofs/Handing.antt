-- Reservations one after the other, single or in batches: which numbers they hand out, counted from tables with nothing reserved.
-- Assumes nothing.
use Prim.Native.Nat.{ℕ, ◌+◌, ◌-◌, ◌<◌, ◌≤◌}
use native.Mathlib.Omega.{arith}
use mathlib.Core.Path.{◌≡◌, refl, sym, ap, ap₂, ◌∙◌}
use mathlib.Core.Logic.{◌⊎◌, inl, inr, ⊎_elim}
use mathlib.Core.Bool.{cond}
use mathlib.Core.List.Memᴰ
use mathlib.Core.List.{List, [], ◌∷◌, ◌++◌, map, map-append}
use borrow.Author.Tests.{lt-ltb, le-ltb}
use lib.Dec.{ltb}
use lib.IntN.{ℤ, pos, ◌-ℤ◌}
use lib.ListN.{length, length-append}
use lib.Seq.{slice, length-slice}
use Rattle.handle.specs.Bits.{bits_of, generation_in, number_in}
use Rattle.handle.specs.RoundTrip.{generation_back, number_back}
use Rattle.id_tables.specs.Head.{free_of, new_of}
use Rattle.id_tables.specs.Ids.{Ids, ids_of, capacity, room, generation_at, EntryOk}
use Rattle.id_tables.specs.Runs.{up_from, length_up_from}
use Rattle.id_tables.proofs.Falling.{free_fallen, new_fallen}
use Rattle.id_tables.proofs.Meaning.{ok_passes}
use Rattle.ids.specs.Reserve.{reserved_number, reserved_generation}
use Rattle.ids.proofs.Passing.{ReserveOk}
use Rattle.ids.proofs.Laws.{reserved_free, reserved_new_lem}
use Rattle.id_batches.specs.Reserve.{handles}
use Rattle.id_batches.specs.Flush.{reserved_count}
use Rattle.id_batches.proofs.Granted.{ReserveManyOk}
use Rattle.id_batches.proofs.Handed.{old_is, new_is}
use Rattle.soundness.specs.Sound.{pending_at, SoundIds}
use Rattle.soundness.proofs.Lists.{below_or, Mem, Lists, lists_as, lists_join, lists_one, lists_up, Between}
use Rattle.soundness.proofs.Meaning.{Old, sound_ok, pending_whole, part_whole, old_lists}
use Rattle.soundness.proofs.Growing.{Fresh}
use Rattle.soundness.proofs.Keeping.{new_count, free_count}

-- the tables with another cursor
abbrev pub with_cursor : Ids → ℤ → Ids
with_cursor s c =
    ids_of (record { used = s.head.used; pending = s.head.pending; cursor = c; live = s.head.live }) s.generations s.archetypes s.indices
    s.pending

-- how many numbers are not live
abbrev pub vacant : Ids → ℕ
vacant s = s.head.pending + (capacity s - s.head.used)

-- the cursor where k numbers are reserved
pub record After (s : Ids) (k : ℕ) (c : ℤ) : Type 0 where
  pub free : free_of c ≡ s.head.pending - k
  pub new : new_of c ≡ k - s.head.pending

pub after_now : {s : Ids} → SoundIds s → After s (reserved_count s) s.head.cursor
after_now k = record { free = free_count k; new = new_count k }

pub after_fall : {s : Ids} {k : ℕ} {c : ℤ} → After s k c → (n : ℕ) → After s (k + n) (c -ℤ pos n)
after_fall {s} {k} {c} a n = record { free = free_fallen c n ∙ omega (arith, a.free); new = new_fallen c n ∙ omega (arith, a.free, a.new) }

-- so many are reserved, and the others are the room
pub after_count : {s : Ids} {k : ℕ} {c : ℤ} → After s k c → reserved_count (with_cursor s c) ≡ k
after_count a = omega (arith, a.free, a.new)

pub after_room : {s : Ids} {k : ℕ} {c : ℤ} → EntryOk s → After s k c → k ≤ vacant s → room (with_cursor s c) ≡ vacant s - k
after_room ok a h = omega (arith, a.free, a.new)

-- the generation that a number has, or is given when it is new; and its handle
unfoldable pub gen_of : Ids → ℕ → ℕ
gen_of s m = cond (ltb m s.head.used) (generation_at s m) 1

abbrev pub handle_of : Ids → ℕ → ℕ
handle_of s m = bits_of (gen_of s m) m

pub gen_old : (s : Ids) (m : ℕ) → m < s.head.used → gen_of s m ≡ generation_at s m
unfolding gen_of
gen_old s m h = rw (lt-ltb m s.head.used h)

pub gen_new : (s : Ids) (m : ℕ) → s.head.used ≤ m → gen_of s m ≡ 1
unfolding gen_of
gen_new s m h = rw (le-ltb m s.head.used h)

-- reservation k, and the reservations k to k + n - 1 as one batch lists them
unfoldable pub next : Ids → ℕ → ℕ
next s k = cond (ltb 0 (s.head.pending - k)) (pending_at s (s.head.pending - k - 1)) (s.head.used + (k - s.head.pending))

unfoldable pub batch : Ids → ℕ → ℕ → List ℕ
batch s k n = slice (s.head.pending - k - n) (s.head.pending - k) s.pending ++ up_from (s.head.used + (k - s.head.pending)) (n - (s.head.pending - k))

pub map_agree : {A B : Type 0} (f g : A → B) (xs : List A) → ((x : A) → Mem x xs → f x ≡ g x) → map f xs ≡ map g xs
map_agree f g [] h = refl
map_agree f g (x ∷ xs) h = ap₂ ◌∷◌ (h x (Memᴰ.head refl)) (map_agree f g xs (λ y m. h y (Memᴰ.tail m)))

pub fresh_join : (s : Ids) (lo mid hi m : ℕ) → lo ≤ mid → mid ≤ hi → Fresh s lo mid m ⊎ Fresh s mid hi m → Fresh s lo hi m
fresh_join s lo mid hi m p q (inl (inl o)) = let (j, w, e) = o in inl (j, omega arith, e)
fresh_join s lo mid hi m p q (inl (inr b)) = inr (omega arith)
fresh_join s lo mid hi m p q (inr (inl o)) = let (j, w, e) = o in inl (j, omega arith, e)
fresh_join s lo mid hi m p q (inr (inr b)) = inr (omega arith)

pub fresh_split : (s : Ids) (lo mid hi m : ℕ) → lo ≤ mid → mid ≤ hi → Fresh s lo hi m → Fresh s lo mid m ⊎ Fresh s mid hi m
fresh_split s lo mid hi m p q (inl o) =
    let (j, w, e) = o in
    ⊎_elim (λ (z : j < s.head.pending - mid). inr (inl (j, omega arith, e))) (λ (z : s.head.pending - mid ≤ j). inl (inl (j, omega arith, e))) (below_or j (s.head.pending - mid))
fresh_split s lo mid hi m p q (inr b) =
    ⊎_elim (λ (z : m < s.head.used + (mid - s.head.pending)). inl (inr (omega arith))) (λ (z : s.head.used + (mid - s.head.pending) ≤ m). inr (inr (omega arith))) (below_or m (s.head.used + (mid - s.head.pending)))

module _ {s : Ids} (k : SoundIds s) where
  entry : EntryOk s
  entry = sound_ok s k

  -- the tables with so many reserved are sound
  pub after_sound : {i : ℕ} {c : ℤ} → After s i c → i ≤ vacant s → SoundIds (with_cursor s c)
  after_sound {i} {c} a h =
      let ok = entry in
      record {
        head_rule = sym (ok_passes (with_cursor s c) (record { small = ok.small; archetypes_long = ok.archetypes_long; indices_long = ok.indices_long; pending_long = ok.pending_long; used_in = ok.used_in; pending_in = ok.pending_in; free_in = omega (arith, a.free); new_in = omega (arith, a.new); live_is = ok.live_is }));
        pending_differ = k.pending_differ;
        pending_below = k.pending_below;
        pending_place = k.pending_place;
        generation_nonzero = k.generation_nonzero;
        lives_placed = k.lives_placed;
      }

  pub batch_lists : (i n : ℕ) → Lists (Fresh s i (i + n)) (batch s i n)
  unfolding batch
  batch_lists i n =
      let b = s.head.used + (i - s.head.pending) in
      let e : b + (n - (s.head.pending - i)) - b ≡ n - (s.head.pending - i) = omega arith in
      lists_as
      (λ m x. ⊎_elim (λ (o : Old s (s.head.pending - i - n) (s.head.pending - i) m). let (j, w, q) = o in inl (j, omega arith, q)) (λ (w : Between b (b + (n - (s.head.pending - i))) m). inr (omega arith)) x)
      (λ m x. ⊎_elim (λ (o : Old s (s.head.pending - (i + n)) (s.head.pending - i) m). let (j, w, q) = o in inl (j, omega arith, q)) (λ (w : Between b (s.head.used + (i + n - s.head.pending)) m). inr (omega arith)) x)
      (lists_join
      (λ m o w. let (j, v, q) = o in omega (arith, k.pending_below j (omega arith)))
      (old_lists s k (s.head.pending - i - n) (s.head.pending - i) (omega arith) (omega arith))
      (rw e at (lists_up b (b + (n - (s.head.pending - i))))))

  pub batch_long : (i n : ℕ) → length (batch s i n) ≡ n
  unfolding batch
  batch_long i n =
      let ok = entry in
      rw (length-append, length-slice (s.head.pending - i - n) (s.head.pending - i) s.pending (omega arith), length_up_from) (omega arith)

  pub next_lists : (i : ℕ) → Lists (Fresh s i (i + 1)) (next s i ∷ [])
  unfolding next
  next_lists i =
      ⊎_elim
      (λ (h : 0 < s.head.pending - i).
      rw (lt-ltb 0 (s.head.pending - i) h)
      (lists_as
      (λ m e. inl (s.head.pending - i - 1, omega arith, sym e))
      (λ m f. ⊎_elim (λ (o : Old s (s.head.pending - (i + 1)) (s.head.pending - i) m). let (j, b, e) = o in let z : j ≡ s.head.pending - i - 1 = omega arith in sym e ∙ ap (pending_at s) z) (λ (b : Between (s.head.used + (i - s.head.pending)) (s.head.used + (i + 1 - s.head.pending)) m). absurd (omega arith)) f)
      (lists_one (pending_at s (s.head.pending - i - 1)))))
      (λ (h : s.head.pending - i ≤ 0).
      rw (le-ltb 0 (s.head.pending - i) h)
      (lists_as
      (λ m e. inr (omega arith))
      (λ m f. ⊎_elim (λ (o : Old s (s.head.pending - (i + 1)) (s.head.pending - i) m). let (j, b, e) = o in absurd (omega arith)) (λ (b : Between (s.head.used + (i - s.head.pending)) (s.head.used + (i + 1 - s.head.pending)) m). omega arith) f)
      (lists_one (s.head.used + (i - s.head.pending)))))
      (below_or 0 (s.head.pending - i))

  -- with so many reserved, one more or n more are granted where the numbers suffice
  module _ {i : ℕ} {c : ℤ} (a : After s i c) where
    pub one_ok : i + 1 ≤ vacant s → ReserveOk (with_cursor s c)
    one_ok h =
        let ok = entry in
        record {
          ok = sound_ok (with_cursor s c) (after_sound a (omega arith));
          has_room = omega (arith, after_room ok a (omega arith));
          free_good = λ l. pending_whole s k (free_of c - 1) (omega (arith, a.free));
        }

    pub one_handle : bits_of (reserved_generation (with_cursor s c)) (reserved_number (with_cursor s c)) ≡ handle_of s (next s i)
    unfolding next
    one_handle =
        ⊎_elim
        (λ (h : 0 < s.head.pending - i).
        let f : 0 < free_of c = omega (arith, a.free) in
        let e = reserved_free (with_cursor s c) f in
        let b : pending_at s (s.head.pending - i - 1) < s.head.used = k.pending_below (s.head.pending - i - 1) (omega arith) in
        rw (e.0, e.1, a.free, lt-ltb 0 (s.head.pending - i) h, gen_old s (pending_at s (s.head.pending - i - 1)) b))
        (λ (h : s.head.pending - i ≤ 0).
        let f : free_of c ≡ 0 = omega (arith, a.free) in
        let e = reserved_new_lem (with_cursor s c) f in
        rw (e.0, e.1, a.new, le-ltb 0 (s.head.pending - i) h, gen_new s (s.head.used + (i - s.head.pending)) (omega arith)))
        (below_or 0 (s.head.pending - i))

    pub many_ok : (n places : ℕ) → i + n ≤ vacant s → n ≤ places → ReserveManyOk (with_cursor s c) n places
    many_ok n places h l =
        let ok = entry in
        record {
          ok = sound_ok (with_cursor s c) (after_sound a (omega arith));
          places_in = l;
          room_in = omega (arith, after_room ok a (omega arith));
          whole = part_whole s k (free_of c - n) (free_of c) (omega (arith, a.free));
        }

    pub many_handles : (n : ℕ) → handles (with_cursor s c) n ≡ map (handle_of s) (batch s i n)
    unfolding batch
    many_handles n =
        let o = old_lists s k (s.head.pending - i - n) (s.head.pending - i) (omega arith) (omega arith) in
        let b = s.head.used + (i - s.head.pending) in
        let e : b + (n - (s.head.pending - i)) - b ≡ n - (s.head.pending - i) = omega arith in
        let u : Lists (Between b (b + (n - (s.head.pending - i)))) (up_from b (n - (s.head.pending - i))) = rw e at (lists_up b (b + (n - (s.head.pending - i)))) in
        rw (a.free, a.new, old_is s.generations (slice (s.head.pending - i - n) (s.head.pending - i) s.pending), new_is (up_from b (n - (s.head.pending - i))))
        (ap₂ ◌++◌
        (map_agree (λ m. bits_of (generation_at s m) m) (handle_of s) (slice (s.head.pending - i - n) (s.head.pending - i) s.pending)
        (λ m x. let (j, w, q) = o.only m x in let y : m < s.head.used = rw q at (k.pending_below j (omega arith)) in rw (gen_old s m y)))
        (map_agree (bits_of 1) (handle_of s) (up_from b (n - (s.head.pending - i))) (λ m x. rw (gen_new s m (let y = (u.only m x).0 in omega arith))))
        ∙ sym (map-append (handle_of s) (slice (s.head.pending - i - n) (s.head.pending - i) s.pending) (up_from b (n - (s.head.pending - i)))))

  pub gen_nonzero : (m : ℕ) → gen_of s m ≡ 0 → ⊥
  gen_nonzero m e =
      ⊎_elim (λ (h : m < s.head.used). k.generation_nonzero m h (sym (gen_old s m h) ∙ e)) (λ (h : s.head.used ≤ m). omega (arith, gen_new s m h)) (below_or m s.head.used)

  -- a handle that is handed out: its number is one of these, at its generation; and bits are packed so
  pub handle_number : (m : ℕ) → m < capacity s → number_in (handle_of s m) ≡ m
  handle_number m h = let ok = entry in number_back (gen_of s m) m (omega arith)

  pub handle_generation : (m : ℕ) → m < capacity s → generation_in (handle_of s m) ≡ gen_of s m
  handle_generation m h = let ok = entry in generation_back (gen_of s m) m (omega arith)
