-- Any split into reservations from sound tables: all are granted, and the handles are those of the next numbers, each once.
-- Assumes nothing.
use Prim.{tt}
use Prim.Native.Nat.{ℕ, ◌+◌, ◌-◌, ◌≤◌}
use native.Mathlib.Omega.{arith}
use native.Mathlib.Nat.{add-zero, add_assoc}
use mathlib.Core.Path.{◌≡◌, refl, sym, ap, ◌∙◌}
use mathlib.Core.Logic.{⊎_elim}
use mathlib.Core.Bool.{false}
use mathlib.Core.List.{List, [], ◌∷◌, ◌++◌, map, map-append}
use lib.IntN.{ℤ, pos, ◌-ℤ◌}
use lib.ListN.{length, drop, length-append, length-map}
use lib.Seq.{take_at}
use Rattle.refusal.specs.Table.{Answer, granted, passing}
use Rattle.id_batches.specs.Reserve.{handles}
use Rattle.store_tables.specs.Store.{Store, with_ids, entry}
use Rattle.store_tables.specs.Kept.{Entered}
use Rattle.store_tables.proofs.Passing.{entered_passes}
use Rattle.store_reserve.specs.Reserve.{reserving, reserving_many}
use Rattle.store_reserve.proofs.Laws.{reserving_at, reserving_many_at}
use Rattle.soundness.specs.Sound.{Sound}
use Rattle.soundness.proofs.Lists.{Lists, lists_none, lists_as, lists_join, Between}
use Rattle.soundness.proofs.Meaning.{Old, sound_ok}
use Rattle.soundness.proofs.Growing.{Fresh, fresh_apart}
use Rattle.soundness.proofs.Handing as ids
use Rattle.soundness.proofs.Handing.{with_cursor, vacant, After, after_fall, after_sound, handle_of, fresh_join, fresh_split}
use Rattle.store_soundness.proofs.Bridge.{sound_entered}
use Rattle.demand_three.specs.Steps.{Step, single, batch, lookup, size, LongEnough, the_one, the_first, ◌and_then◌, step, run}

-- the store with another cursor
abbrev pub store_at : Store → ℤ → Store
store_at s c = with_ids s (with_cursor s.ids c)

module _ {s : Store} (h : Sound s) where
  module _ {k : ℕ} {c : ℤ} (a : After s.ids k c) (f : k ≤ vacant s.ids) where
    at_entered : Entered (store_at s c)
    at_entered = record { ids = sound_ok (with_cursor s.ids c) (after_sound h.ids a f); rows = (sound_entered h).rows; words_long = (sound_entered h).words_long }

    pub at_passes : granted tt ≡ passing (entry (store_at s c) false)
    at_passes = entered_passes (store_at s c) false at_entered refl

    -- with so many reserved the store is sound
    pub at_sound : Sound (store_at s c)
    at_sound =
        record {
          head_rule = at_passes;
          ids = after_sound h.ids a f;
          row_lives = h.row_lives;
          lives_named = h.lives_named;
          named_once = h.named_once;
          own_place = h.own_place;
        }

-- what steps give, from the cursor after k reservations: the handles of the next n numbers
pub record Reserved (s : Store) (k n : ℕ) (said : Answer (List ℕ × Store)) : Type 0 where
  pub numbers : List ℕ
  pub cursor : ℤ
  pub said_is : said ≡ granted (map (handle_of s.ids) numbers, store_at s cursor)
  pub after : After s.ids (k + n) cursor
  pub lists : Lists (Fresh s.ids k (k + n)) numbers
  pub count : length numbers ≡ n

module _ {s : Store} (h : Sound s) where
  pub single_granted : {k : ℕ} {c : ℤ} → After s.ids k c → k + 1 ≤ vacant s.ids
      → the_one (reserving (store_at s c)) ≡ granted (map (handle_of s.ids) (ids.next s.ids k ∷ []), store_at s (c -ℤ pos 1))
  single_granted {k} {c} a f =
      ap the_one (reserving_at (store_at s c) (at_passes h a (omega arith)) (ids.one_ok h.ids a f)) ∙ ap (λ (b : ℕ). granted (b ∷ [], store_at s (c -ℤ pos 1))) (ids.one_handle h.ids a)

  pub batch_granted : {k : ℕ} {c : ℤ} → After s.ids k c → (n : ℕ) (out : List ℕ) → k + n ≤ vacant s.ids → n ≤ length out
      → the_first n (reserving_many (store_at s c) n out) ≡ granted (map (handle_of s.ids) (ids.batch s.ids k n), store_at s (c -ℤ pos n))
  batch_granted {k} {c} a n out f l =
      let e = ids.many_handles h.ids a n in
      let w : length (handles (with_cursor s.ids c) n) ≡ n = ap length e ∙ length-map (ids.batch s.ids k n) (handle_of s.ids) ∙ ids.batch_long h.ids k n in
      ap (the_first n) (reserving_many_at (store_at s c) n out (at_passes h a (omega arith)) (ids.many_ok h.ids a n (length out) f l))
      ∙ ap (λ (hs : List ℕ). granted (hs, store_at s (c -ℤ pos n))) (take_at (handles (with_cursor s.ids c) n) (drop n out) n w ∙ e)

  -- one step and then the others
  join : (k n m : ℕ) (c : ℤ) (ms : List ℕ) (said : Answer (List ℕ × Store)) (rest : Store → Answer (List ℕ × Store))
      → said ≡ granted (map (handle_of s.ids) ms, store_at s c) → Lists (Fresh s.ids k (k + n)) ms → length ms ≡ n → Reserved s (k + n) m (rest (store_at s c))
      → Reserved s k (n + m) (said and_then rest)
  join k n m c ms said rest e l w r =
      record {
        numbers = ms ++ r.numbers;
        cursor = r.cursor;
        said_is = rw (e, r.said_is) (ap (λ (xs : List ℕ). granted (xs, store_at s r.cursor)) (sym (map-append (handle_of s.ids) ms r.numbers)));
        after = rw (← add_assoc k n m) r.after;
        lists = rw (← add_assoc k n m) (lists_as (λ x. fresh_join s.ids k (k + n) (k + n + m) x (omega arith) (omega arith)) (λ x. fresh_split s.ids k (k + n) (k + n + m) x (omega arith) (omega arith)) (lists_join (fresh_apart h.ids k (k + n) (k + n + m)) l r.lists));
        count = rw length-append (omega (arith, r.count));
      }

  pub run_granted : (xs : List Step) {k : ℕ} {c : ℤ} → After s.ids k c → k + size xs ≤ vacant s.ids → LongEnough xs → Reserved s k (size xs) (run xs (store_at s c))
  unfolding run step
  run_granted [] {k} {c} a f g =
      record {
        numbers = [];
        cursor = c;
        said_is = refl;
        after = rw (add-zero k) a;
        lists = lists_as (λ m e. absurd e)
            (λ m q. ⊎_elim (λ (o : Old s.ids (s.ids.head.pending - (k + 0)) (s.ids.head.pending - k) m). let (j, b, e) = o in omega arith) (λ (b : Between (s.ids.head.used + (k - s.ids.head.pending)) (s.ids.head.used + (k + 0 - s.ids.head.pending)) m). omega arith) q)
            lists_none;
        count = refl;
      }
  run_granted (single ∷ xs) {k} {c} a f g =
      join k 1 (size xs) (c -ℤ pos 1) (ids.next s.ids k ∷ []) (the_one (reserving (store_at s c))) (run xs) (single_granted a (omega arith)) (ids.next_lists h.ids k) refl
      (run_granted xs (after_fall a 1) (omega arith) g)
  run_granted (batch n out ∷ xs) {k} {c} a f g =
      join k n (size xs) (c -ℤ pos n) (ids.batch s.ids k n) (the_first n (reserving_many (store_at s c) n out)) (run xs) (batch_granted a n out (omega arith) g.0) (ids.batch_lists h.ids k n) (ids.batch_long h.ids k n)
      (run_granted xs (after_fall a n) (omega arith) g.1)
  run_granted (lookup ∷ xs) {k} {c} a f g =
      let r : Reserved s k (size xs) (run xs (store_at s c)) = run_granted xs a f g in
      record { numbers = r.numbers; cursor = r.cursor; said_is = rw r.said_is; after = r.after; lists = r.lists; count = r.count }
