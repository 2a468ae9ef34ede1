-- The two loops: row counts against rows, and the columns of a type.
-- Assumes nothing.
use Prim.{tt}
use Prim.Native.Nat.{ℕ, zero, suc, ◌+◌, ◌≤◌, ◌<◌, min}
use mathlib.Core.Bool.{true, false, not}
use mathlib.Core.List.{List, [], ◌∷◌}
use mathlib.Core.Logic.{⊎_elim}
use mathlib.Core.Path.{◌≡◌, refl, sym, subst, ◌∙◌}
use native.Mathlib.Numerals.{add-one}
use native.Mathlib.Omega.{arith}
use borrow.Author.Tests.{lt-ltb, le-ltb, eq-eqb, ne_eqb}
use lib.Dec.{eqb}
use lib.ListN.{length, get_or, take, drop, drop_of_length-le, get_or-eq_default}
use lib.Seq.{drop-cons}
use Rattle.std.specs.List.{zip, HoldsAt, AllWithin}
use Rattle.std.proofs.lemmas.List.{get_or-take, length-take-le}
use Rattle.refusal.specs.Table.{granted, refused, passing}
use Rattle.decl.proofs.Lists.{below_or_not, any_stop, any_false}
use Rattle.column_entry.specs.Entry.{is_over, count_rules, wrong_size}
use Rattle.refusal.specs.Chain.{applies, onward, through}

-- row counts against rows: one that is there, and past the counts
module _ (rows counts : List ℕ) (a : ℕ) where
  pub is_over_lem : get_or rows a 0 < get_or counts a 0 → is_over rows counts a ≡ true
  unfolding is_over
  is_over_lem k = lt-ltb _ _ k

  pub not_over : get_or counts a 0 ≤ get_or rows a 0 → is_over rows counts a ≡ false
  unfolding is_over
  not_over k = le-ltb _ _ k

  past_counts : length counts ≤ a → is_over rows counts a ≡ false
  past_counts l = not_over (omega (arith, get_or-eq_default counts 0 {n = a} l))

-- rows and counts side by side
length_zip : (xs ys : List ℕ) → length (zip xs ys) ≡ min (length xs) (length ys)
length_zip [] ys = omega arith
length_zip (x ∷ xs) [] = omega arith
length_zip (x ∷ xs) (y ∷ ys) = omega (arith, length_zip xs ys)

get_or-zip : (xs ys : List ℕ) (k : ℕ) → k < length xs → k < length ys → get_or (zip xs ys) k (0, 0) ≡ (get_or xs k 0, get_or ys k 0)
get_or-zip [] ys k h l = absurd (omega arith)
get_or-zip (x ∷ xs) [] k h l = absurd (omega arith)
get_or-zip (x ∷ xs) (y ∷ ys) zero h l = refl
get_or-zip (x ∷ xs) (y ∷ ys) (suc k) h l = get_or-zip xs ys k (omega arith) (omega arith)

abbrev pub Over : ℕ × ℕ → Type 0
Over p = p.0 < p.1

abbrev pub Within : ℕ × ℕ → Type 0
Within p = p.1 ≤ p.0

module _ (rows counts : List ℕ) where
  pub counts_over : (k : ℕ) × (k < length (zip rows counts)) × HoldsAt Over (zip rows counts) k → refused 1 ≡ passing (count_rules rows counts)
  unfolding count_rules
  counts_over (k, h, o) =
      let l : k < min (length rows) (length counts) = rw length_zip at h in
      applies 1 _ (any_stop (is_over rows counts) (length rows) k (omega arith)
      (is_over_lem rows counts k (subst Over (get_or-zip rows counts k (omega arith) (omega arith)) (o (0, 0)))))

  pub counts_passed : AllWithin Within (zip rows counts) 0 (length (zip rows counts)) → granted tt ≡ passing (count_rules rows counts)
  unfolding count_rules
  counts_passed f =
      onward 1 _ (any_false (is_over rows counts) (length rows) (λ a h.
      ⊎_elim (λ (l : a < length counts).
      let g : a < length (zip rows counts) = omega (arith, length_zip rows counts) in
      not_over rows counts a (subst Within (get_or-zip rows counts a h l) (f a (0, 0) (omega arith) g)))
      (past_counts rows counts a) (below_or_not a (length counts)))) through

-- what is left of the columns decides
module _ (types sizes : List ℕ) (t n p : ℕ) where
  pub size_short : length sizes ≤ p → wrong_size (drop p types) (drop p sizes) t n ≡ false
  unfolding wrong_size
  size_short h = rw (drop_of_length-le sizes h) (none (drop p types))
    where
      none : (xs : List ℕ) → wrong_size xs [] t n ≡ false
      none [] = refl
      none (x ∷ xs) = refl

  pub size_none : length types ≤ p → wrong_size (drop p types) (drop p sizes) t n ≡ false
  unfolding wrong_size
  size_none h = rw (drop_of_length-le types h)

  module _ (h : p < length types) (k : p < length sizes) where
    pub size_here : get_or types p 0 ≡ t → wrong_size (drop p types) (drop p sizes) t n ≡ not (eqb (get_or sizes p 0) n)
    unfolding wrong_size
    size_here e = rw (drop-cons types p 0 h, drop-cons sizes p 0 k) (simp (eq-eqb _ _ e))

    pub size_next : (get_or types p 0 ≡ t → ⊥) → wrong_size (drop p types) (drop p sizes) t n ≡ wrong_size (drop (p + 1) types) (drop (p + 1) sizes) t n
    unfolding wrong_size
    size_next e = rw (drop-cons types p 0 h, drop-cons sizes p 0 k, add-one p) (simp (ne_eqb _ _ e))

-- the first column of the type decides, of those that have a size
module _ (types sizes : List ℕ) (t n : ℕ) where
  from_column : (p : ℕ) → p ≤ min (length types) (length sizes) → ((k : ℕ) → k < p → get_or types k 0 ≡ t → ⊥) → wrong_size types sizes t n ≡ wrong_size (drop p types) (drop p sizes) t n
  from_column zero h f = refl
  from_column (suc p) h f =
      from_column p (omega arith) (λ k l. f k (omega arith))
      ∙ rw (← add-one p) (size_next types sizes t n p (omega arith) (omega arith) (f p (omega arith)))

  module _ (known : ℕ) (m : known ≡ min (length types) (length sizes)) where
    up_to : (p : ℕ) → p ≤ known → AllWithin (λ x. x ≡ t → ⊥) (take known types) 0 p → wrong_size types sizes t n ≡ wrong_size (drop p types) (drop p sizes) t n
    up_to p l f =
        from_column p (omega (arith, m)) (λ k h e. f k 0 (omega arith) h (get_or-take known types k 0 (omega arith) ∙ e))

    have : length (take known types) ≡ known
    have = length-take-le known types (omega (arith, m))

    pub size_undeclared : AllWithin (λ x. x ≡ t → ⊥) (take known types) 0 (length (take known types)) → false ≡ wrong_size types sizes t n
    size_undeclared f =
        sym (up_to known (omega arith) (subst (AllWithin (λ x. x ≡ t → ⊥) (take known types) 0) have f)
        ∙ ⊎_elim
        (λ (l : length types < length sizes). size_none types sizes t n known (omega (arith, m)))
        (λ (l : length sizes ≤ length types). size_short types sizes t n known (omega (arith, m)))
        (below_or_not (length types) (length sizes)))

    module _ (p : ℕ) (first : (p < length (take known types)) × HoldsAt (λ x. x ≡ t) (take known types) p × AllWithin (λ x. x ≡ t → ⊥) (take known types) 0 p) where
      pub here : p < length sizes
      here = omega (arith, m, have, first.0)

      pub size_at : not (eqb (get_or sizes p 0) n) ≡ wrong_size types sizes t n
      size_at =
          sym (up_to p (omega (arith, have, first.0)) first.2
          ∙ size_here types sizes t n p (omega (arith, m, have, first.0)) here (sym (get_or-take known types p 0 (omega (arith, have, first.0))) ∙ first.1 0))
