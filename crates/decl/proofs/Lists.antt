-- Laws of the words that the rules use of lists, and of the numbers below a bound.
-- Assumes nothing.
use Prim.Native.Nat.{ℕ, zero, suc, ◌+◌, ◌-◌, ◌*◌, ◌≤◌, ◌<◌}
use mathlib.Core.Bool.{Bool, true, false, ◌&&◌, ◌||◌, or-true, or-false}
use mathlib.Core.Path.{◌≡◌, refl, sym, ap, ◌∙◌}
use mathlib.Core.Logic.{◌⊎◌, inl, inr, ⊎_elim}
use mathlib.Core.List.{List, [], ◌∷◌}
use native.Mathlib.Nat.{le_of_suc-le-suc, not-suc-le-zero, eq-or-lt_of_le, lt_trans, mul-suc}
use native.Mathlib.Numerals.{add-one}
use native.Mathlib.Omega.{arith}
use borrow.Author.Tests.{lt-ltb, le-ltb, ltb-true, ltb-false, eq-eqb, eqb-true}
use lib.Dec.{ltb, eqb}
use lib.ListN.{length, get_or, take, drop, length-take, length-drop}
use lib.Seq.{take_all, take-nil, get_or-take, get_or-drop}
use Rattle.std.specs.List.{IsAllAdjacentAnswer, list_any}
use Rattle.std.specs.List as whole
use Rattle.std.proofs.lemmas.List.Recursion.{same_from_clauses, is_sum_by}
use Rattle.decl.specs.Lists.{sum, first_of, part_of, any_above, rising, same, any_below, any_pair}

pub false_true : false ≡ true → ⊥
false_true e = let z : ◌≡◌ {A = ℕ} 0 1 = cc in omega arith

pub or_left : (a b : Bool) → (a || b) ≡ false → a ≡ false
or_left true b e = absurd (false_true (sym e))
or_left false b e = refl

pub or_right : (a b : Bool) → (a || b) ≡ false → b ≡ false
or_right true b e = absurd (false_true (sym e))
or_right false b e = e

pub and_left : (a b : Bool) → (a && b) ≡ true → a ≡ true
and_left true b e = refl
and_left false b e = e

pub and_right : (a b : Bool) → (a && b) ≡ true → b ≡ true
and_right true b e = e
and_right false b e = absurd (false_true e)

pub below_or_not : (a b : ℕ) → (a < b) ⊎ (b ≤ a)
below_or_not a b = side (ltb a b) refl where
  side : (s : Bool) → ltb a b ≡ s → (a < b) ⊎ (b ≤ a)
  side true e = inl (ltb-true a b e)
  side false e = inr (ltb-false a b e)

-- A test of the numbers below n, from 0 up.
module _ (p : ℕ → Bool) where
  pub any_none : any_below 0 p ≡ false
  unfolding any_below
  any_none = refl

  pub any_more : (i : ℕ) → any_below i p ≡ false → p i ≡ false → any_below (i + 1) p ≡ false
  unfolding any_below
  any_more i e h = rw (add-one i, e) h

  pub any_stop : (n i : ℕ) → i < n → p i ≡ true → any_below n p ≡ true
  unfolding any_below
  any_stop zero i l h = absurd (not-suc-le-zero l)
  any_stop (suc n) i l h =
      ⊎_elim (λ e. ap (λ (b : Bool). any_below n p || b) (ap p (sym e) ∙ h) ∙ or-true (any_below n p))
      (λ k. ap (λ (b : Bool). b || p n) (any_stop n i k h)) (eq-or-lt_of_le (le_of_suc-le-suc l))

  pub any_done : (n i : ℕ) → any_below i p ≡ false → i ≤ n → n ≤ i → any_below n p ≡ false
  any_done n i e h k = let q : n ≡ i = omega arith in rw q e

  pub any_at : (n : ℕ) → any_below n p ≡ false → (i : ℕ) → i < n → p i ≡ false
  unfolding any_below
  any_at zero e i l = absurd (not-suc-le-zero l)
  any_at (suc n) e i l =
      ⊎_elim (λ q. ap p q ∙ or_right (any_below n p) (p n) e) (λ k. any_at n (or_left (any_below n p) (p n) e) i k) (eq-or-lt_of_le (le_of_suc-le-suc l))

  pub any_false : (n : ℕ) → ((i : ℕ) → i < n → p i ≡ false) → any_below n p ≡ false
  unfolding any_below
  any_false zero h = refl
  any_false (suc n) h = rw (any_false n (λ i l. h i (omega arith))) (h n (omega arith))

  -- where none is from n on, those below n decide
  pub any_within : (n m : ℕ) → n ≤ m → ((i : ℕ) → n ≤ i → p i ≡ false) → any_below m p ≡ any_below n p
  unfolding any_below
  any_within n zero h f = let e : n ≡ 0 = omega arith in rw e
  any_within n (suc m) h f =
      ⊎_elim (λ e. rw e) (λ k. rw (f m (le_of_suc-le-suc k), any_within n m (le_of_suc-le-suc k) f) (or-false (any_below n p))) (eq-or-lt_of_le h)

pub pair_at : (p : ℕ → ℕ → Bool) (n : ℕ) → any_pair n p ≡ false → (a b : ℕ) → a < b → b < n → p a b ≡ false
unfolding any_pair
pair_at p n e a b h k = any_at (λ m. p m b) b (any_at (λ m. any_below m (λ l. p l m)) n e b k) a h

pub pair_false : (p : ℕ → ℕ → Bool) (n : ℕ) → ((a b : ℕ) → a < b → b < n → p a b ≡ false) → any_pair n p ≡ false
unfolding any_pair
pair_false p n h = any_false _ n (λ b k. any_false _ b (λ a l. h a b l k))

-- A number above max: the library's `any` tells it.
pub above_any : (max : ℕ) (xs : List ℕ) → list_any (ltb max) xs ≡ any_above max xs
unfolding any_above
above_any max xs = same_from_clauses (list_any (ltb max)) (any_above max) (λ x b. ltb max x || b) refl (λ _ _. refl) (λ _ _. refl) xs

pub above_at : (max : ℕ) (xs : List ℕ) → any_above max xs ≡ false → (k : ℕ) → get_or xs k 0 ≤ max
unfolding any_above
above_at max [] e k = omega arith
above_at max (x ∷ xs) e zero = ltb-false max x (or_left (ltb max x) (any_above max xs) e)
above_at max (x ∷ xs) e (suc k) = above_at max xs (or_right (ltb max x) (any_above max xs) e) k

pub above_false : (max : ℕ) (xs : List ℕ) → ((k : ℕ) → k < length xs → get_or xs k 0 ≤ max) → any_above max xs ≡ false
unfolding any_above
above_false max [] h = refl
above_false max (x ∷ xs) h = rw (le-ltb max x (h 0 (omega arith))) (above_false max xs (λ k l. h (suc k) (omega arith)))

-- Ascending.
pub rising_all : (xs : List ℕ) → ((k : ℕ) → suc k < length xs → get_or xs k 0 < get_or xs (suc k) 0) → rising xs ≡ true
unfolding rising
rising_all [] h = refl
rising_all (x ∷ []) h = refl
rising_all (x ∷ y ∷ xs) h = rw (lt-ltb x y (h 0 (omega arith))) (rising_all (y ∷ xs) (λ k l. h (suc k) (omega arith)))

rises_one : (xs : List ℕ) → rising xs ≡ true → (k : ℕ) → suc k < length xs → get_or xs k 0 < get_or xs (suc k) 0
unfolding rising
rises_one [] e k h = absurd (not-suc-le-zero h)
rises_one (x ∷ []) e k h = absurd (not-suc-le-zero (le_of_suc-le-suc h))
rises_one (x ∷ y ∷ xs) e zero h = ltb-true x y (and_left (ltb x y) (rising (y ∷ xs)) e)
rises_one (x ∷ y ∷ xs) e (suc k) h = rises_one (y ∷ xs) (and_right (ltb x y) (rising (y ∷ xs)) e) k (le_of_suc-le-suc h)

-- the library's `is_sorted_by` tells it
pub rising_answer : (xs : List ℕ) (r : Bool) → IsAllAdjacentAnswer (λ x y b. b ≡ ltb x y) xs r → r ≡ rising xs
rising_answer xs true h = sym (rising_all xs (λ k l. ltb-true _ _ (sym (rw add-one at (h k 0 (omega arith))))))
rising_answer xs false h = side (rising xs) refl where
  side : (s : Bool) → rising xs ≡ s → false ≡ s
  side true e = h.2 0 ∙ lt-ltb _ _ (rw (← add-one h.0) at (rises_one xs e h.0 (omega (arith, h.1))))
  side false e = refl

pub rises : (xs : List ℕ) → rising xs ≡ true → (i j : ℕ) → i < j → j < length xs → get_or xs i 0 < get_or xs j 0
rises xs e i zero l h = absurd (not-suc-le-zero l)
rises xs e i (suc j) l h =
    let one : get_or xs j 0 < get_or xs (suc j) 0 = rises_one xs e j h in
    ⊎_elim (λ q. rw q one) (λ k. lt_trans (rises xs e i j k (omega arith)) one) (eq-or-lt_of_le (le_of_suc-le-suc l))

pub rises_to : (xs : List ℕ) → rising xs ≡ true → (i j : ℕ) → i ≤ j → j < length xs → get_or xs i 0 ≤ get_or xs j 0
rises_to xs e i j l h = ⊎_elim (λ q. rw q (omega arith)) (λ k. omega (arith, rises xs e i j k h)) (eq-or-lt_of_le l)

-- a number in ascending numbers stands at one place
pub one_place : (xs : List ℕ) → rising xs ≡ true → (i j : ℕ) → i < length xs → j < length xs → get_or xs i 0 ≡ get_or xs j 0 → i ≡ j
one_place xs r i j h k e =
    ⊎_elim (λ (l : i < j). omega (arith, rises xs r i j l k))
    (λ (l : j ≤ i). ⊎_elim (λ m. sym m) (λ m. omega (arith, rises xs r j i m h)) (eq-or-lt_of_le l)) (below_or_not i j)

-- The same list.
pub same_true : (xs ys : List ℕ) → same xs ys ≡ true → xs ≡ ys
unfolding same
same_true [] [] e = refl
same_true [] (y ∷ ys) e = absurd (false_true e)
same_true (x ∷ xs) [] e = absurd (false_true e)
same_true (x ∷ xs) (y ∷ ys) e =
    let h : x ≡ y = eqb-true x y (and_left (eqb x y) (same xs ys) e) in
    let t : xs ≡ ys = same_true xs ys (and_right (eqb x y) (same xs ys) e) in
    cc

pub same_self : (xs : List ℕ) → same xs xs ≡ true
unfolding same
same_self [] = refl
same_self (x ∷ xs) = rw (eq-eqb x x refl) (same_self xs)

pub same_false : (xs ys : List ℕ) → same xs ys ≡ false → xs ≡ ys → ⊥
same_false xs ys e h = false_true (sym e ∙ rw h (same_self ys))

told : (xs ys : List ℕ) (s : Bool) → same xs ys ≡ s → (xs ≡ ys → ⊥) → same xs ys ≡ false
told xs ys true e h = absurd (h (same_true xs ys e))
told xs ys false e h = e

pub ne_same : (xs ys : List ℕ) → (xs ≡ ys → ⊥) → same xs ys ≡ false
ne_same xs ys h = told xs ys (same xs ys) refl h

-- Sums, and where the parts of a list begin.
-- the library's sum
pub sum_is : (xs : List ℕ) → sum xs ≡ whole.sum xs
unfolding sum
sum_is xs = is_sum_by sum (λ x. x) refl (λ _ _. refl) xs

pub first_none : (xs : List ℕ) → first_of xs 0 ≡ 0
unfolding first_of sum
first_none xs = refl

pub first_next : (xs : List ℕ) (a : ℕ) → first_of xs (suc a) ≡ first_of xs a + get_or xs a 0
unfolding first_of sum
first_next [] a = simp take-nil
first_next (x ∷ xs) zero = omega arith
first_next (x ∷ xs) (suc a) = rw (first_next xs a) (omega arith)

-- the next part begins where this one ends
pub first_step : (xs : List ℕ) (a at : ℕ) → at ≡ first_of xs a → at + get_or xs a 0 ≡ first_of xs (a + 1)
first_step xs a at h = rw (add-one a, first_next xs a, h)

pub first_all : (xs : List ℕ) (n : ℕ) → length xs ≤ n → first_of xs n ≡ sum xs
unfolding first_of
first_all xs n h = rw take_all

pub first_grows : (xs : List ℕ) (a b : ℕ) → a ≤ b → first_of xs a ≤ first_of xs b
first_grows xs a zero h = let e : a ≡ 0 = omega arith in rw e (omega arith)
first_grows xs a (suc b) h =
    ⊎_elim (λ e. rw e (omega arith)) (λ k. omega (arith, first_next xs b, first_grows xs a b (le_of_suc-le-suc k))) (eq-or-lt_of_le h)

pub first_in : (m : ℕ) (xs : List ℕ) → ((k : ℕ) → get_or xs k 0 ≤ m) → (a : ℕ) → first_of xs a ≤ m * a
first_in m xs h zero = rw first_none (omega arith)
first_in m xs h (suc a) = rw (first_next xs a, mul-suc) (omega (arith, h a, first_in m xs h a))

-- part a ends where part a + 1 begins, or before
pub part_fits : (xs : List ℕ) (a n : ℕ) → a < n → first_of xs a + get_or xs a 0 ≤ first_of xs n
part_fits xs a n h = rw (← first_next xs a) (first_grows xs (suc a) n h)

pub part_in_sum : (xs : List ℕ) (a : ℕ) → first_of xs a + get_or xs a 0 ≤ sum xs
part_in_sum xs a =
    let n : ℕ = suc a + length xs in
    omega (arith, part_fits xs a n (omega arith), first_all xs n (omega arith))

pub sum_in : (m : ℕ) (xs : List ℕ) → ((k : ℕ) → get_or xs k 0 ≤ m) → sum xs ≤ m * length xs
unfolding sum
sum_in m [] h = omega arith
sum_in m (x ∷ xs) h = rw mul-suc (omega (arith, h 0, sum_in m xs (λ k. h (suc k))))

-- The parts of a list.
module _ (lengths xs : List ℕ) (a : ℕ) where
  -- the part that is lent, from where it begins up to where the next one does
  pub part_lent : (at end : ℕ) → at ≡ first_of lengths a → end ≡ first_of lengths (a + 1) → take (end - at) (drop at xs) ≡ part_of lengths xs a
  unfolding part_of
  part_lent at end h e = let q : end - at ≡ get_or lengths a 0 = omega (arith, first_step lengths a at h) in rw (q, h)

  -- what is said of it is said of the part
  pub part_told : (f : List ℕ → Bool) (at end : ℕ) {r : Bool} → at ≡ first_of lengths a → end ≡ first_of lengths (a + 1)
      → r ≡ f (take (end - at) (drop at xs)) → f (part_of lengths xs a) ≡ r
  part_told f at end h e q = rw (← part_lent at end h e) (sym q)

  pub part_length : first_of lengths a + get_or lengths a 0 ≤ length xs → length (part_of lengths xs a) ≡ get_or lengths a 0
  unfolding part_of
  part_length h = simp (length-take, length-drop) (omega arith)

  pub part_short : length (part_of lengths xs a) ≤ get_or lengths a 0
  unfolding part_of
  part_short = simp length-take (omega arith)

  pub part_at : (j : ℕ) → j < get_or lengths a 0 → get_or (part_of lengths xs a) j 0 ≡ get_or xs (first_of lengths a + j) 0
  unfolding part_of
  part_at j h = rw (get_or-take, get_or-drop)

-- the parts of two lists of one length are of one length
pub parts_paired : (lengths xs ys : List ℕ) (a : ℕ) → length ys ≡ length xs → length (part_of lengths ys a) ≡ length (part_of lengths xs a)
unfolding part_of
parts_paired lengths xs ys a h = simp (length-take, length-drop, h)

pub take_in : (m n : ℕ) (xs : List ℕ) → ((k : ℕ) → get_or xs k 0 ≤ m) → (k : ℕ) → get_or (take n xs) k 0 ≤ m
take_in m zero xs h k = omega arith
take_in m (suc n) [] h k = omega arith
take_in m (suc n) (x ∷ xs) h zero = h 0
take_in m (suc n) (x ∷ xs) h (suc k) = take_in m n xs (λ j. h (suc j)) k

pub part_in : (m : ℕ) (lengths xs : List ℕ) → ((k : ℕ) → get_or xs k 0 ≤ m) → (a k : ℕ) → get_or (part_of lengths xs a) k 0 ≤ m
unfolding part_of
part_in m lengths xs h a k = take_in m (get_or lengths a 0) (drop (first_of lengths a) xs) (λ j. rw get_or-drop (h _)) k
