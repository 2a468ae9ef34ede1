-- The search for a target: the archetypes before it are of other types, and where each archetype's types are.
-- Assumes nothing.
use Prim.Native.Nat.{ℕ, zero, suc, ◌+◌, ◌-◌, ◌≤◌, ◌<◌, min}
use native.Mathlib.Numerals.{add-one}
use native.Mathlib.Omega.{arith}
use mathlib.Core.Bool.{Bool, true, false, cond}
use mathlib.Core.List.{List, [], ◌∷◌}
use mathlib.Core.Logic.{⊎_elim}
use mathlib.Core.Option.{Option, none, some}
use mathlib.Core.Path.{◌≡◌, refl, sym, ap, ◌∙◌}
use lib.ListN.{length, take, drop, length-drop, drop_of_length-le}
use lib.Seq.{take_all, take-nil}
use borrow.Author.Tests.{lt-ltb, le-ltb}
use Rattle.decl.specs.Lists.{same}
use Rattle.decl.specs.Decl.{Decl, archetypes, width_of, first_column, types_of}
use Rattle.decl.proofs.Lists.{below_or_not, same_true}
use Rattle.decl.proofs.Placing.{column_next}
use Rattle.decl.proofs.Lending.{types_lent}
use Rattle.decl.proofs.Starting.{column_first}
use Rattle.store_moves.specs.Lists.{first_below, or_next}
use Rattle.store_moves.specs.Target.{types_before, target_of}

-- types before t, by the first that does not come before it
pub before_none : (t : ℕ) → types_before t [] ≡ 0
unfolding types_before
before_none t = refl

pub before_hit : (t x : ℕ) (xs : List ℕ) → t ≤ x → types_before t (x ∷ xs) ≡ 0
unfolding types_before
before_hit t x xs h = simp (le-ltb x t h)

pub before_miss : (t x : ℕ) (xs : List ℕ) → x < t → types_before t (x ∷ xs) ≡ types_before t xs + 1
unfolding types_before
before_miss t x xs h = simp (lt-ltb x t h) (omega arith)

-- the first at which a test holds
module _ (p : ℕ → Bool) where
  pub first_none : first_below 0 p ≡ none
  unfolding first_below
  first_none = refl

  pub first_more : (a : ℕ) → first_below a p ≡ none → p a ≡ false → first_below (a + 1) p ≡ none
  unfolding first_below
  first_more a e f = rw (add-one a, e, f)

  first_keeps : (a n m : ℕ) → first_below n p ≡ some a → first_below (n + m) p ≡ some a
  unfolding first_below
  first_keeps a n zero e = let q : n + 0 ≡ n = omega arith in rw q e
  first_keeps a n (suc m) e = let q : n + suc m ≡ suc (n + m) = omega arith in rw (q, first_keeps a n m e)

  pub first_found : (n a : ℕ) → a < n → first_below a p ≡ none → p a ≡ true → first_below n p ≡ some a
  unfolding first_below
  first_found n a h e f =
      let q : suc a + (n - suc a) ≡ n = omega arith in
      ap (λ (z : ℕ). first_below z p) (sym q) ∙ first_keeps a (suc a) (n - suc a) (rw (e, f))

  pub first_done : (n a : ℕ) → first_below a p ≡ none → a ≤ n → n ≤ a → first_below n p ≡ none
  first_done n a e h l = let q : n ≡ a = omega arith in rw q e

  -- what is found is below n and passes the test
  pub first_means : (n a : ℕ) → first_below n p ≡ some a → (a < n) × (p a ≡ true)
  unfolding first_below
  first_means zero a e = absurd (not_some e)
    where
      not_some : none ≡ some a → ⊥
      not_some z = let w : ◌≡◌ {A = ℕ} 0 1 = cc in omega arith
  first_means (suc n) a e = by (first_means n a) (first_below n p) refl (p n) refl e
    where
      by : (first_below n p ≡ some a → (a < n) × (p a ≡ true)) → (o : Option ℕ) → first_below n p ≡ o → (b : Bool) → p n ≡ b → or_next o (cond b (some n) none) ≡ some a → (a < suc n) × (p a ≡ true)
      by next (some x) q b f z = let m = next (q ∙ z) in (omega (arith, m.0), m.1)
      by next none q true f z = let w : n ≡ a = cc in rw (← w) (omega arith, f)
      by next none q false f z = absurd (no z)
        where
          no : none ≡ some a → ⊥
          no u = let w : ◌≡◌ {A = ℕ} 0 1 = cc in omega arith

-- where an archetype's types are, of any declaration
module _ (d : Decl) (a : ℕ) where
  pub from_first : 0 ≡ min (first_column d 0) (length d.types)
  from_first = omega (arith, column_first d)

  module _ (from to : ℕ) (f : from ≡ min (first_column d a) (length d.types)) (t : to ≡ min (from + width_of d a) (length d.types)) where
    pub from_next : to ≡ min (first_column d (a + 1)) (length d.types)
    from_next = omega (arith, column_next d a)

    pub part_there : take (to - from) (drop from d.types) ≡ types_of d a
    part_there = ⊎_elim (λ (h : first_column d a < length d.types). within h) (λ (h : length d.types ≤ first_column d a). past h) (below_or_not (first_column d a) (length d.types))
      where
        whole : take (first_column d a + width_of d a - first_column d a) (drop (first_column d a) d.types) ≡ types_of d a
        whole = types_lent d a (first_column d a) (first_column d a + width_of d a) refl refl

        within : first_column d a < length d.types → take (to - from) (drop from d.types) ≡ types_of d a
        within h =
            let q : from ≡ first_column d a = omega arith in
            ⊎_elim
            (λ (l : first_column d a + width_of d a < length d.types).
            let e : to - from ≡ first_column d a + width_of d a - first_column d a = omega arith in rw (e, q) whole)
            (λ (l : length d.types ≤ first_column d a + width_of d a).
            rw (take_all (to - from) (drop from d.types) (omega (arith, length-drop from d.types)), q)
            (sym (take_all (first_column d a + width_of d a - first_column d a) (drop (first_column d a) d.types) (omega (arith, length-drop (first_column d a) d.types))) ∙ whole))
            (below_or_not (first_column d a + width_of d a) (length d.types))

        past : length d.types ≤ first_column d a → take (to - from) (drop from d.types) ≡ types_of d a
        past h =
            let q : length d.types ≤ from = omega arith in
            rw (drop_of_length-le d.types {i = from} q, take-nil (to - from))
            (sym (take-nil (first_column d a + width_of d a - first_column d a)) ∙ rw (drop_of_length-le d.types {i = first_column d a} h) at whole)

-- The search itself: none of the first a archetypes is of just these types.
abbrev is_of : Decl → List ℕ → ℕ → Bool
is_of d wanted a = same (types_of d a) wanted

pub record Sought (d : Decl) (wanted : List ℕ) (from a : ℕ) : Type 0 where
  pub begins : from ≡ min (first_column d a) (length d.types)
  pub none_yet : first_below a (is_of d wanted) ≡ none

module _ (d : Decl) (wanted : List ℕ) where
  pub sought_none : Sought d wanted 0 0
  sought_none = record { begins = from_first d 0; none_yet = first_none (is_of d wanted) }

  module _ (from a to : ℕ) (s : Sought d wanted from a) (t : to ≡ min (from + width_of d a) (length d.types)) (r : Bool) (e : r ≡ same (take (to - from) (drop from d.types)) wanted) where
    seen : is_of d wanted a ≡ r
    seen = sym (e ∙ ap (λ (l : List ℕ). same l wanted) (part_there d a from to s.begins t))

    pub sought_more : r ≡ false → Sought d wanted to (a + 1)
    sought_more f = record { begins = from_next d a from to s.begins t; none_yet = first_more (is_of d wanted) a s.none_yet (seen ∙ f) }

    pub sought_here : a < archetypes d → r ≡ true → some a ≡ target_of d wanted
    unfolding target_of
    sought_here h f = sym (first_found (is_of d wanted) (archetypes d) a h s.none_yet (seen ∙ f))

  pub sought_done : (from a : ℕ) → Sought d wanted from a → a ≤ archetypes d → archetypes d ≤ a → none ≡ target_of d wanted
  unfolding target_of
  sought_done from a s h l = sym (first_done (is_of d wanted) (archetypes d) a s.none_yet h l)

-- what is found is declared, of just these types
pub target_means : (d : Decl) (wanted : List ℕ) (b : ℕ) → target_of d wanted ≡ some b → (b < archetypes d) × (types_of d b ≡ wanted)
unfolding target_of
target_means d wanted b e = let m = first_means (is_of d wanted) (archetypes d) b e in (m.0, same_true (types_of d b) wanted m.1)
