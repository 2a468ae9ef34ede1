-- The target of a move: another archetype, whose sizes are the row's with that of the type added or taken.
-- Assumes nothing.
use Prim.Native.Nat.{ℕ, suc, ◌+◌, ◌-◌, ◌≤◌, ◌<◌}
use native.Mathlib.Nat.{eq-or-lt_of_le}
use native.Mathlib.Omega.{arith}
use mathlib.Core.Bool.{Bool, true, false, cond}
use mathlib.Core.List.{List, [], ◌∷◌, ◌++◌}
use mathlib.Core.Logic.{⊎_elim}
use mathlib.Core.Path.{◌≡◌, sym, ap, ◌∙◌}
use lib.Dec.{ltb}
use lib.ListN.{length, get_or, take, drop, take-append-drop}
use lib.Seq.{ext_get_or}
use Rattle.decl.specs.Decl.{Decl, archetypes, width_of, types_of, sizes_of, type_of, size_of}
use Rattle.decl.specs.Kept.{Declared}
use Rattle.decl.proofs.Lists.{below_or_not}
use Rattle.decl.proofs.Keeping.{types_length, sizes_length}
use Rattle.cells.specs.Line.{width}
use Rattle.cells.proofs.Runs.{width_append}
use Rattle.store_moves.specs.Lists.{put_in, taken_out}
use Rattle.store_moves.specs.Target.{types_before}
use Rattle.store_moves.proofs.Splicing.{put_in_lem, taken_out_lem, length_put_in, length_out, in_before, in_here, in_after, out_before, out_after}

-- the width with columns put in, and without a column
pub width_in_out : (at : ℕ) (ys xs : List ℕ) → width (put_in at ys xs) ≡ width xs + width ys
width_in_out at ys xs =
    let e : width (take at xs) + width (drop at xs) ≡ width xs = sym (width_append (take at xs) (drop at xs)) ∙ ap width (take-append-drop at xs) in
    ap width (put_in_lem at ys xs) ∙ omega (arith, width_append (take at xs) (ys ++ drop at xs), width_append ys (drop at xs))

pub width_out : (at : ℕ) (xs : List ℕ) → width (taken_out at 1 xs) ≡ width (take at xs) + width (drop (at + 1) xs)
width_out at xs = ap width (taken_out_lem at 1 xs) ∙ width_append (take at xs) (drop (at + 1) xs)

-- types before t are at most all
pub before_in : (t : ℕ) (xs : List ℕ) → types_before t xs ≤ length xs
unfolding types_before
before_in t [] = omega arith
before_in t (x ∷ xs) = by (before_in t xs) (ltb x t)
  where
    by : types_before t xs ≤ length xs → (b : Bool) → cond b (suc (types_before t xs)) 0 ≤ suc (length xs)
    by h true = omega arith
    by h false = omega arith

module _ (d : Decl) (k : Declared d) (a b : ℕ) (here : a < archetypes d) (there : b < archetypes d) where
  types_a : length (types_of d a) ≡ width_of d a
  types_a = types_length d k.shaped a

  types_b : length (types_of d b) ≡ width_of d b
  types_b = types_length d k.shaped b

  sizes_a : length (sizes_of d a) ≡ width_of d a
  sizes_a = sizes_length d k.shaped a

  sizes_b : length (sizes_of d b) ≡ width_of d b
  sizes_b = sizes_length d k.shaped b

  -- with a type put in at a place
  module _ (t at : ℕ) (l : at ≤ length (types_of d a)) (e : types_of d b ≡ put_in at (t ∷ []) (types_of d a)) where
    pub wider : width_of d b ≡ width_of d a + 1
    wider = omega (arith, types_a, types_b, ap (λ (z : List ℕ). length z) e, length_put_in at (t ∷ []) (types_of d a))

    pub with_differs : b ≡ a → ⊥
    with_differs q = omega (arith, wider, ap (width_of d) q)

    pub type_added : type_of d b at ≡ t
    type_added = let z : at + 0 ≡ at = omega arith in ap (λ (w : List ℕ). get_or w at 0) e ∙ rw z at (in_here at (t ∷ []) (types_of d a) l 0 (omega arith))

    -- the columns before it, and those after
    pub with_before : (j : ℕ) → j < at → type_of d b j ≡ type_of d a j
    with_before j h = ap (λ (w : List ℕ). get_or w j 0) e ∙ in_before at (t ∷ []) (types_of d a) l j h

    pub with_after : (j : ℕ) → at ≤ j → type_of d b (j + 1) ≡ type_of d a j
    with_after j h =
        let p : at + (1 + (j - at)) ≡ j + 1 = omega arith in
        let q : at + (j - at) ≡ j = omega arith in
        ap (λ (w : List ℕ). get_or w (j + 1) 0) e ∙ rw (p, q) at (in_after at (t ∷ []) (types_of d a) l (j - at))

    pub with_sizes : sizes_of d b ≡ put_in at (size_of d b at ∷ []) (sizes_of d a)
    with_sizes = ext_get_or 0 (sizes_of d b) (put_in at (size_of d b at ∷ []) (sizes_of d a)) long each
      where
        long : length (sizes_of d b) ≡ length (put_in at (size_of d b at ∷ []) (sizes_of d a))
        long = omega (arith, sizes_b, sizes_a, wider, length_put_in at (size_of d b at ∷ []) (sizes_of d a))

        in_a : at ≤ length (sizes_of d a)
        in_a = omega (arith, sizes_a, types_a)

        each : (i : ℕ) → i < length (sizes_of d b) → size_of d b i ≡ get_or (put_in at (size_of d b at ∷ []) (sizes_of d a)) i 0
        each i h =
            ⊎_elim
            (λ (u : i < at).
            k.one_size b a i i there here (omega (arith, sizes_b)) (omega (arith, types_a)) (with_before i u)
            ∙ sym (in_before at (size_of d b at ∷ []) (sizes_of d a) in_a i u))
            (λ (u : at ≤ i). ⊎_elim
            (λ (q : at ≡ i). let z : at + 0 ≡ at = omega arith in rw (← q) (sym (rw z at (in_here at (size_of d b at ∷ []) (sizes_of d a) in_a 0 (omega arith)))))
            (λ (q : at < i).
            let p : at + (1 + (i - 1 - at)) ≡ i = omega arith in
            let r : at + (i - 1 - at) ≡ i - 1 = omega arith in
            let z : i - 1 + 1 ≡ i = omega arith in
            k.one_size b a i (i - 1) there here (omega (arith, sizes_b)) (omega (arith, sizes_b, wider)) (rw z at (with_after (i - 1) (omega arith)))
            ∙ sym (rw (p, r) at (in_after at (size_of d b at ∷ []) (sizes_of d a) in_a (i - 1 - at))))
            (eq-or-lt_of_le u))
            (below_or_not i at)

  -- with the type of a column taken out
  module _ (at : ℕ) (l : at < width_of d a) (e : types_of d b ≡ taken_out at 1 (types_of d a)) where
    pub narrower : width_of d b + 1 ≡ width_of d a
    narrower = omega (arith, types_a, types_b, ap (λ (z : List ℕ). length z) e, length_out at 1 (types_of d a) (omega (arith, types_a)))

    pub without_differs : b ≡ a → ⊥
    without_differs q = omega (arith, narrower, ap (width_of d) q)

    pub without_before : (j : ℕ) → j < at → type_of d b j ≡ type_of d a j
    without_before j h = ap (λ (w : List ℕ). get_or w j 0) e ∙ out_before at 1 (types_of d a) (omega (arith, types_a)) j h

    pub without_after : (j : ℕ) → at ≤ j → type_of d b j ≡ type_of d a (j + 1)
    without_after j h = ap (λ (w : List ℕ). get_or w j 0) e ∙ out_after at 1 (types_of d a) (omega (arith, types_a)) j h

    pub without_sizes : sizes_of d b ≡ taken_out at 1 (sizes_of d a)
    without_sizes = ext_get_or 0 (sizes_of d b) (taken_out at 1 (sizes_of d a)) long each
      where
        long : length (sizes_of d b) ≡ length (taken_out at 1 (sizes_of d a))
        long = omega (arith, sizes_b, sizes_a, narrower, length_out at 1 (sizes_of d a) (omega (arith, sizes_a)))

        each : (i : ℕ) → i < length (sizes_of d b) → size_of d b i ≡ get_or (taken_out at 1 (sizes_of d a)) i 0
        each i h =
            ⊎_elim
            (λ (u : i < at).
            k.one_size b a i i there here (omega (arith, sizes_b)) (omega arith) (without_before i u)
            ∙ sym (out_before at 1 (sizes_of d a) (omega (arith, sizes_a)) i u))
            (λ (u : at ≤ i).
            k.one_size b a i (i + 1) there here (omega (arith, sizes_b)) (omega (arith, sizes_b, narrower)) (without_after i u)
            ∙ sym (out_after at 1 (sizes_of d a) (omega (arith, sizes_a)) i u))
            (below_or_not i at)
