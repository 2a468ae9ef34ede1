-- Entries of a table that are set one after the other: a loop's step, two runs that make one, and what stands where.
-- Assumes nothing.
use Prim.Native.Nat.{ℕ, zero, suc, ◌+◌, ◌-◌, ◌<◌, ◌≤◌}
use mathlib.Core.Path.{◌≡◌, refl, sym, ap, ◌∙◌}
use mathlib.Core.List.{List, [], ◌∷◌, ◌++◌, map}
use native.Mathlib.Omega.{arith}
use native.Mathlib.Nat.{not-suc-le-zero, le_of_suc-le-suc, zero-add, add-zero, suc-add}
use native.Mathlib.Numerals.{add-one}
use lib.ListN.{length, get_or, drop, set, replicate, length-append, length-set, length-replicate, get_or-replicate, length-map, replicate-append-replicate, drop_of_length-le}
use lib.Seq.{drop-cons, sets, sets-eq}
use Rattle.handle.specs.Bits.{bits_of}
use Rattle.id_tables.specs.Runs.{up_from, up_from_none, up_from_cons, length_up_from, up_from_at}
use Rattle.id_batches.specs.Seating.{set_each, set_all, set_rows}
use Rattle.id_batches.specs.Reserve.{old_handles, new_handles}

-- the numbers from n up, in two parts
pub up_from_append : (n j k : ℕ) → up_from n (j + k) ≡ up_from n j ++ up_from (n + j) k
up_from_append n zero k = rw (zero-add k, up_from_none n, add-zero n)
up_from_append n (suc j) k =
    let e : n + suc j ≡ n + 1 + j = omega arith in
    rw (suc-add j k, up_from_cons n (j + k), up_from_cons n j, e, up_from_append (n + 1) j k)

pub set_long : (l ns vs : List ℕ) → length (set_each l ns vs) ≡ length l
unfolding set_each
set_long l [] vs = refl
set_long l (n ∷ ns) [] = refl
set_long l (n ∷ ns) (v ∷ vs) = set_long (set l n v) ns vs ∙ length-set l n v

-- a loop that has set the first i of them: what is left to set
pub record Rest (l₀ l ns vs : List ℕ) (i : ℕ) : Type 0 where
  pub same : set_each l₀ ns vs ≡ set_each l (drop i ns) (drop i vs)

pub rest_all : (l ns vs : List ℕ) → Rest l l ns vs 0
rest_all l ns vs = record { same = refl }

module _ {l₀ l ns vs : List ℕ} {i : ℕ} (e : Rest l₀ l ns vs i) where
  pub rest_next : {l' : List ℕ} {n v : ℕ} → i < length ns → i < length vs → n ≡ get_or ns i 0 → v ≡ get_or vs i 0 → l' ≡ set l n v → Rest l₀ l' ns vs (i + 1)
  unfolding set_each
  rest_next h k p q r = record { same = e.same ∙ rw (r, p, q, add-one i, drop-cons ns i 0 h, drop-cons vs i 0 k) }

  pub rest_none : length ns ≤ i → l ≡ set_each l₀ ns vs
  unfolding set_each
  rest_none h = sym (rw (drop_of_length-le ns h) at e.same)

  pub rest_long : length l ≡ length l₀
  rest_long = sym (set_long l (drop i ns) (drop i vs)) ∙ ap length (sym e.same) ∙ set_long l₀ ns vs

-- the next of the numbers from a up
module _ (a : ℕ) {k i : ℕ} where
  pub up_in : i < k → i < length (up_from a k)
  up_in h = rw (length_up_from a k) h

  pub up_here : i < k → a + i ≡ get_or (up_from a k) i 0
  up_here h = sym (up_from_at a k i h)

  pub up_end : k ≤ i → length (up_from a k) ≤ i
  up_end h = rw (length_up_from a k) h

-- the next entry is set to the one value, or to the next row
module _ {l₀ l l' ns : List ℕ} {i : ℕ} (v n : ℕ) where
  pub same_next : Rest l₀ l ns (replicate (length ns) v) i → i < length ns → n ≡ get_or ns i 0 → l' ≡ set l n v → Rest l₀ l' ns (replicate (length ns) v) (i + 1)
  same_next e h p r = rest_next e h (rw (length-replicate (length ns) v) h) p (sym (get_or-replicate (length ns) i v 0 h)) r

  pub row_next : Rest l₀ l ns (up_from v (length ns)) i → i < length ns → n ≡ get_or ns i 0 → l' ≡ set l n (v + i) → Rest l₀ l' ns (up_from v (length ns)) (i + 1)
  row_next e h p r = rest_next e h (up_in v h) p (up_here v h) r

-- what stands in a list of values made of numbers
map_at : (f : ℕ → ℕ) (ns : List ℕ) (i : ℕ) → i < length ns → get_or (map f ns) i 0 ≡ f (get_or ns i 0)
map_at f [] i h = absurd (not-suc-le-zero h)
map_at f (n ∷ ns) zero h = refl
map_at f (n ∷ ns) (suc i) h = map_at f ns i (le_of_suc-le-suc h)

-- two runs, the one after the other, are one
pub set_two : (l ms ns us vs : List ℕ) → length ms ≡ length us → set_each l (ms ++ ns) (us ++ vs) ≡ set_each (set_each l ms us) ns vs
unfolding set_each
set_two l [] ns [] vs e = refl
set_two l [] ns (u ∷ us) vs e = absurd (omega arith)
set_two l (m ∷ ms) ns [] vs e = absurd (omega arith)
set_two l (m ∷ ms) ns (u ∷ us) vs e = set_two (set l m u) ms ns us vs (omega arith)

module _ (l ms ns : List ℕ) (v : ℕ) where
  pub all_two : set_all l (ms ++ ns) v ≡ set_all (set_all l ms v) ns v
  all_two =
      rw (length-append ms ns, ← replicate-append-replicate (length ms) (length ns) v)
      (set_two l ms ns (replicate (length ms) v) (replicate (length ns) v) (sym (length-replicate (length ms) v)))

  pub rows_two : set_rows l (ms ++ ns) v ≡ set_rows (set_rows l ms v) ns (v + length ms)
  rows_two =
      rw (length-append ms ns, up_from_append v (length ms) (length ns))
      (set_two l ms ns (up_from v (length ms)) (up_from (v + length ms) (length ns)) (sym (length_up_from v (length ms))))

-- a run of places from a on
pub run_sets : (l vs : List ℕ) (a : ℕ) → set_each l (up_from a (length vs)) vs ≡ sets l a vs
unfolding set_each
run_sets l [] a = rw (up_from_none a)
run_sets l (v ∷ vs) a = rw (up_from_cons a (length vs), add-one a) (run_sets (set l a v) vs (suc a))

-- where the run is as long as this, one value in all of it
module _ (l : List ℕ) (a k v : ℕ) where
  same_long : (a + k) - a ≡ k
  same_long = omega arith

  pub run_same : sets l a (replicate ((a + k) - a) v) ≡ set_all l (up_from a k) v
  run_same =
      rw (same_long, length_up_from a k)
      (sym (rw (length-replicate k v) at (run_sets l (replicate k v) a)))

pub front_set : (l vs : List ℕ) → length vs ≤ length l → set_each l (up_from 0 (length vs)) vs ≡ vs ++ drop (length vs) l
front_set l vs h = run_sets l vs 0 ∙ sets-eq vs l 0 (omega arith) ∙ rw (zero-add (length vs))

-- and the same in two parts
front_two : (l us vs : List ℕ) → length us + length vs ≤ length l
    → set_each (set_each l (up_from 0 (length us)) us) (up_from (length us) (length vs)) vs ≡ (us ++ vs) ++ drop (length us + length vs) l
front_two l us vs h =
    let e : up_from 0 (length us + length vs) ≡ up_from 0 (length us) ++ up_from (length us) (length vs) = rw (zero-add (length us)) at (up_from_append 0 (length us) (length vs)) in
    sym (set_two l (up_from 0 (length us)) (up_from (length us) (length vs)) us vs (length_up_from 0 (length us)))
    ∙ rw (← e, ← length-append us vs) (front_set l (us ++ vs) (rw (length-append us vs) h))

-- handles at the front of an output
pub new_long : (ms : List ℕ) → length (new_handles ms) ≡ length ms
unfolding new_handles
new_long ms = length-map ms (bits_of 1)

pub old_at : (generations ns : List ℕ) (i : ℕ) → i < length ns → get_or (old_handles generations ns) i 0 ≡ bits_of (get_or generations (get_or ns i 0) 0) (get_or ns i 0)
unfolding old_handles
old_at generations ns i h = map_at (λ n. bits_of (get_or generations n 0) n) ns i h

pub new_at : (from count i : ℕ) → i < count → get_or (new_handles (up_from from count)) i 0 ≡ bits_of 1 (from + i)
unfolding new_handles
new_at from count i h = map_at (bits_of 1) (up_from from count) i (rw (length_up_from from count) h) ∙ ap (bits_of 1) (up_from_at from count i h)

module _ (generations ns : List ℕ) {k : ℕ} (e : length ns ≡ k) where
  pub old_long : length (old_handles generations ns) ≡ k
  unfolding old_handles
  old_long = length-map ns (λ n. bits_of (get_or generations n 0) n) ∙ e

  pub old_front : (out : List ℕ) → k ≤ length out → set_each out (up_from 0 (length ns)) (old_handles generations ns) ≡ old_handles generations ns ++ drop k out
  old_front out h = rw (e) (rw (old_long) at (front_set out (old_handles generations ns) (rw old_long h)))

  pub both_front : (out ms : List ℕ) (j n : ℕ) → length ms ≡ j → k + j ≡ n → n ≤ length out
      → set_each (set_each out (up_from 0 (length ns)) (old_handles generations ns)) (up_from k j) (new_handles ms) ≡ (old_handles generations ns ++ new_handles ms) ++ drop n out
  both_front out ms j n d t h =
      let l : length (old_handles generations ns) + length (new_handles ms) ≤ length out = rw (old_long, new_long ms, d, t) h in
      rw e (rw (old_long, new_long ms, d, t) at (front_two out (old_handles generations ns) (new_handles ms) l))
