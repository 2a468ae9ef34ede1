-- The binary search: what each of its steps finds, and that in ascending types it finds the column of the type.
-- Assumes nothing.
use Prim.Native.Nat.{ℕ, zero, suc, ◌+◌, ◌-◌, ◌≤◌, ◌<◌}
use mathlib.Core.Bool.{Bool, true, false, cond}
use mathlib.Core.Path.{◌≡◌, refl, sym, ap, ◌∙◌}
use mathlib.Core.Logic.{⊎_elim}
use mathlib.Core.List.{List, [], ◌∷◌}
use native.Mathlib.Nat.{le_of_suc-le-suc, not-suc-le-zero, eq-or-lt_of_le}
use native.Mathlib.Numerals.{add-one}
use native.Mathlib.Omega.{arith}
use borrow.Author.Tests.{le-leb, lt-leb, lt-ltb, le-ltb, eq-eqb, ne_eqb, eqb-true, eqb-false}
use lib.Dec.{eqb}
use lib.ListN.{length, get_or}
use Rattle.std.specs.Prelude.{Option, Some, None}
use Rattle.decl.specs.Lists.{rising}
use Rattle.decl.specs.Lookup.{one_on, column_of, middle, sought, searched}
use Rattle.decl.proofs.Lists.{below_or_not, rises, rises_to}

-- The steps, of any list.
module _ (xs : List ℕ) (t lo hi : ℕ) where
  pub sought_none : hi ≤ lo → (n : ℕ) → None ≡ sought n xs t lo hi
  unfolding sought
  sought_none h zero = refl
  sought_none h (suc n) = rw (le-leb hi lo h)

  module _ (l : lo < hi) where
    hit : (n : ℕ) → get_or xs (middle lo hi) 0 ≡ t → sought (suc n) xs t lo hi ≡ Some (middle lo hi)
    unfolding sought
    hit n e = simp (lt-leb hi lo l, eq-eqb _ _ e)

    right : (n : ℕ) → get_or xs (middle lo hi) 0 < t → sought (suc n) xs t lo hi ≡ sought n xs t (middle lo hi + 1) hi
    unfolding sought
    right n e = simp (lt-leb hi lo l, ne_eqb (get_or xs (middle lo hi) 0) t (λ q. omega arith), lt-ltb _ _ e)

    left : (n : ℕ) → t < get_or xs (middle lo hi) 0 → sought (suc n) xs t lo hi ≡ sought n xs t lo (middle lo hi)
    unfolding sought
    left n e = simp (lt-leb hi lo l, ne_eqb (get_or xs (middle lo hi) 0) t (λ q. omega arith), le-ltb (get_or xs (middle lo hi) 0) t (omega arith))

    -- the same for any number of steps that is enough
    pub sought_hit : get_or xs (middle lo hi) 0 ≡ t → (n : ℕ) → hi - lo ≤ n → Some (middle lo hi) ≡ sought n xs t lo hi
    sought_hit e zero h = absurd (omega arith)
    sought_hit e (suc n) h = sym (hit n e)

    pub sought_right : {r : Option ℕ} → get_or xs (middle lo hi) 0 < t → ((n : ℕ) → hi - (middle lo hi + 1) ≤ n → r ≡ sought n xs t (middle lo hi + 1) hi)
        → (n : ℕ) → hi - lo ≤ n → r ≡ sought n xs t lo hi
    sought_right e s zero h = absurd (omega arith)
    sought_right e s (suc n) h = s n (omega arith) ∙ sym (right n e)

    pub sought_left : {r : Option ℕ} → t < get_or xs (middle lo hi) 0 → ((n : ℕ) → middle lo hi - lo ≤ n → r ≡ sought n xs t lo (middle lo hi))
        → (n : ℕ) → hi - lo ≤ n → r ≡ sought n xs t lo hi
    sought_left e s zero h = absurd (omega arith)
    sought_left e s (suc n) h = s n (omega arith) ∙ sym (left n e)

-- Where a type stands.
absent : (xs : List ℕ) (t : ℕ) → ((k : ℕ) → k < length xs → get_or xs k 0 ≡ t → ⊥) → column_of xs t ≡ None
unfolding column_of
absent [] t n = refl
absent (x ∷ xs) t n = simp (ne_eqb x t (n 0 (omega arith)), absent xs t (λ k h. n (suc k) (omega arith)))

present : (xs : List ℕ) (t k : ℕ) → k < length xs → get_or xs k 0 ≡ t → ((j : ℕ) → j < k → get_or xs j 0 ≡ t → ⊥) → column_of xs t ≡ Some k
unfolding column_of
present [] t k h e n = absurd (not-suc-le-zero h)
present (x ∷ xs) t zero h e n = simp (eq-eqb x t e)
present (x ∷ xs) t (suc k) h e n =
    simp (ne_eqb x t (n 0 (omega arith)), present xs t k (le_of_suc-le-suc h) e (λ j m. n (suc j) (omega arith))) (ap Some (omega arith))

-- what an answer says: the type stands there, or nowhere
abbrev pub Stands : List ℕ → ℕ → Option ℕ → Type 0
Stands xs t (Some j) = (j < length xs) × (get_or xs j 0 ≡ t)
Stands xs t None = (k : ℕ) → k < length xs → get_or xs k 0 ≡ t → ⊥

one_more : (x : ℕ) (xs : List ℕ) (t : ℕ) (b : Bool) → eqb x t ≡ b → (c : Option ℕ) → Stands xs t c → Stands (x ∷ xs) t (cond b (Some 0) (one_on c))
one_more x xs t true e c s = (omega arith, eqb-true x t e)
one_more x xs t false e (Some j) s = rw add-one (omega arith, s.1)
one_more x xs t false e None s = λ k. at k where
  at : (k : ℕ) → k < suc (length xs) → get_or (x ∷ xs) k 0 ≡ t → ⊥
  at zero h q = eqb-false x t e q
  at (suc k) h q = s k (le_of_suc-le-suc h) q

pub column_stands : (xs : List ℕ) (t : ℕ) → Stands xs t (column_of xs t)
unfolding column_of
column_stands [] t = λ k h q. not-suc-le-zero h
column_stands (x ∷ xs) t = one_more x xs t (eqb x t) refl (column_of xs t) (column_stands xs t)

pub column_held : (xs : List ℕ) (t j : ℕ) → column_of xs t ≡ Some j → (j < length xs) × (get_or xs j 0 ≡ t)
column_held xs t j e = rw e at (column_stands xs t)

pub column_missing : (xs : List ℕ) (t : ℕ) → column_of xs t ≡ None → (k : ℕ) → k < length xs → get_or xs k 0 ≡ t → ⊥
column_missing xs t e = rw e at (column_stands xs t)

-- of ascending types, each stands at one column
pub column_is : (xs : List ℕ) (t j : ℕ) → rising xs ≡ true → j < length xs → get_or xs j 0 ≡ t → column_of xs t ≡ Some j
column_is xs t j r h e = present xs t j h e (λ k l q. omega (arith, rises xs r k j l h))

-- in ascending types, t stands at no column below lo and at none from hi on
record Between (xs : List ℕ) (t lo hi : ℕ) : Type 0 where
  pub order : lo ≤ hi
  pub within : hi ≤ length xs
  pub below : (k : ℕ) → k < lo → get_or xs k 0 < t
  pub above : (k : ℕ) → hi ≤ k → k < length xs → t < get_or xs k 0

module _ (xs : List ℕ) (rx : rising xs ≡ true) (t : ℕ) where
  ended : (n lo hi : ℕ) → Between xs t lo hi → hi ≤ lo → column_of xs t ≡ sought n xs t lo hi
  ended n lo hi b h =
      absent xs t (λ k m q. ⊎_elim (λ (l : k < lo). omega (arith, b.below k l)) (λ (l : lo ≤ k). omega (arith, b.above k (omega arith) m)) (below_or_not k lo))
      ∙ sought_none xs t lo hi h n

  -- one step, where the search of what is left finds the column
  step : (n lo hi : ℕ) → ((lo' hi' : ℕ) → hi' - lo' ≤ n → Between xs t lo' hi' → column_of xs t ≡ sought n xs t lo' hi')
      → hi - lo ≤ suc n → Between xs t lo hi → lo < hi → column_of xs t ≡ sought (suc n) xs t lo hi
  step n lo hi rest h b l =
      let m : ℕ = middle lo hi in
      let x : ℕ = get_or xs m 0 in
      ⊎_elim
      (λ (e : x < t). rest (m + 1) hi (omega arith)
      (record {
        order = omega arith;
        within = b.within;
        below = λ k u. omega (arith, rises_to xs rx k m (omega arith) (omega arith));
        above = b.above;
      }) ∙ sym (right xs t lo hi l n e))
      (λ (e : t ≤ x). ⊎_elim
      (λ (q : t ≡ x). present xs t m (omega arith) (sym q) (λ j u v. omega (arith, rises xs rx j m u (omega arith))) ∙ sym (hit xs t lo hi l n (sym q)))
      (λ (q : t < x). rest lo m (omega arith)
      (record {
        order = omega arith;
        within = omega arith;
        below = b.below;
        above = λ k u v. omega (arith, rises_to xs rx m k u v);
      }) ∙ sym (left xs t lo hi l n q)) (eq-or-lt_of_le e)) (below_or_not x t)

  halves : (n lo hi : ℕ) → hi - lo ≤ n → Between xs t lo hi → column_of xs t ≡ sought n xs t lo hi
  halves zero lo hi h b = ended zero lo hi b (omega arith)
  halves (suc n) lo hi h b = ⊎_elim (λ l. step n lo hi (λ lo' hi'. halves n lo' hi') h b l) (λ l. ended (suc n) lo hi b l) (below_or_not lo hi)

  -- a binary search in ascending types finds the column of the type
  pub searched_rising : searched xs t ≡ column_of xs t
  unfolding searched
  searched_rising =
      sym (halves (length xs) 0 (length xs) (omega arith)
      (record { order = omega arith; within = omega arith; below = λ k h. omega arith; above = λ k h m. omega arith }))
