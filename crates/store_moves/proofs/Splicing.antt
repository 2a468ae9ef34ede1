-- Laws of lists with something put in or taken out at a place.
-- Assumes nothing.
use Prim.Native.Nat.{ℕ, ◌+◌, ◌-◌, ◌≤◌, ◌<◌, min}
use native.Mathlib.Omega.{arith}
use mathlib.Core.Bool.{Bool, false}
use mathlib.Core.List.{List, [], ◌∷◌, ◌++◌}
use mathlib.Core.Logic.{⊎_elim}
use mathlib.Core.Path.{◌≡◌, refl, sym, ap, ◌∙◌}
use lib.ListN.{length, get_or, take, drop, length-append, length-take, length-drop, drop_of_length-le, get_or-append}
use lib.Seq.{length-take-le, take_all, take-length, drop-length, get_or-take, get_or-drop, get_or-append-add}
use Rattle.std.specs.Bool.{Decides}
use Rattle.std.proofs.lemmas.Bool.Decides.{same_from_decides}
use Rattle.std.proofs.lemmas.List.{append_cancel_left}
use Rattle.decl.specs.Lists.{same}
use Rattle.decl.proofs.Lists.{below_or_not, same_self, same_true, ne_same}
use Rattle.store_moves.specs.Lists.{put_in, taken_out}

module _ (at : ℕ) (ys xs : List ℕ) where
  pub put_in_lem : put_in at ys xs ≡ take at xs ++ (ys ++ drop at xs)
  unfolding put_in
  put_in_lem = refl

  pub length_put_in : length (put_in at ys xs) ≡ length xs + length ys
  unfolding put_in
  length_put_in = simp (length-append, length-take, length-drop) (omega arith)

module _ (at n : ℕ) (xs : List ℕ) where
  pub taken_out_lem : taken_out at n xs ≡ take at xs ++ drop (at + n) xs
  unfolding taken_out
  taken_out_lem = refl

  pub length_out : at + n ≤ length xs → length (taken_out at n xs) + n ≡ length xs
  unfolding taken_out
  length_out h = simp (length-append, length-take, length-drop) (omega arith)

-- what stands where once something was taken out
module _ (at n : ℕ) (xs : List ℕ) (h : at ≤ length xs) (k : ℕ) where
  pub out_before : k < at → get_or (taken_out at n xs) k 0 ≡ get_or xs k 0
  unfolding taken_out
  out_before l = get_or-append (take at xs) (drop (at + n) xs) 0 k (omega (arith, length-take-le at xs h)) ∙ get_or-take at xs k 0 l

  pub out_after : at ≤ k → get_or (taken_out at n xs) k 0 ≡ get_or xs (k + n) 0
  unfolding taken_out
  out_after l =
      let e : length (take at xs) + (k - at) ≡ k = omega (arith, length-take-le at xs h) in
      let f : at + n + (k - at) ≡ k + n = omega arith in
      ap (λ (z : ℕ). get_or (take at xs ++ drop (at + n) xs) z 0) (sym e) ∙ get_or-append-add (take at xs) (drop (at + n) xs) (k - at) 0
      ∙ get_or-drop (at + n) xs (k - at) 0 ∙ ap (λ (z : ℕ). get_or xs z 0) f

-- what was put in
module _ (at : ℕ) (ys xs : List ℕ) (h : at ≤ length xs) (k : ℕ) where
  pub in_before : k < at → get_or (put_in at ys xs) k 0 ≡ get_or xs k 0
  unfolding put_in
  in_before l = get_or-append (take at xs) (ys ++ drop at xs) 0 k (omega (arith, length-take-le at xs h)) ∙ get_or-take at xs k 0 l

  in_from : get_or (put_in at ys xs) (at + k) 0 ≡ get_or (ys ++ drop at xs) k 0
  unfolding put_in
  in_from =
      let e : length (take at xs) + k ≡ at + k = omega (arith, length-take-le at xs h) in
      ap (λ (z : ℕ). get_or (take at xs ++ (ys ++ drop at xs)) z 0) (sym e) ∙ get_or-append-add (take at xs) (ys ++ drop at xs) k 0

  pub in_here : k < length ys → get_or (put_in at ys xs) (at + k) 0 ≡ get_or ys k 0
  in_here l = in_from ∙ get_or-append ys (drop at xs) 0 k l

  pub in_after : get_or (put_in at ys xs) (at + (length ys + k)) 0 ≡ get_or xs (at + k) 0
  unfolding put_in
  in_after =
      let e : length (take at xs) + (length ys + k) ≡ at + (length ys + k) = omega (arith, length-take-le at xs h) in
      ap (λ (z : ℕ). get_or (take at xs ++ (ys ++ drop at xs)) z 0) (sym e) ∙ get_or-append-add (take at xs) (ys ++ drop at xs) (length ys + k) 0
      ∙ get_or-append-add ys (drop at xs) k 0 ∙ get_or-drop at xs k 0

-- the parts of a list, as the code lends them
pub front_lent : (l : List ℕ) (n m : ℕ) → m ≡ min n (length l) → take m l ≡ take n l
front_lent l n m e =
    ⊎_elim (λ (h : n < length l). let q : m ≡ n = omega arith in rw q)
    (λ (h : length l ≤ n). let q : m ≡ length l = omega arith in rw q (take-length l ∙ sym (take_all n l h))) (below_or_not n (length l))

pub back_lent : (l : List ℕ) (n m : ℕ) → m ≡ min n (length l) → take (length l - m) (drop m l) ≡ drop n l
back_lent l n m e =
    take_all (length l - m) (drop m l) (omega (arith, length-drop m l))
    ∙ ⊎_elim (λ (h : n < length l). let q : m ≡ n = omega arith in rw q)
    (λ (h : length l ≤ n). let q : m ≡ length l = omega arith in rw q (drop-length l ∙ sym (drop_of_length-le l h))) (below_or_not n (length l))

-- Whether a list is three others, one after another, as the code takes them off it.
same_decided : (xs ys : List ℕ) (r : Bool) → Decides r (xs ≡ ys) → r ≡ same xs ys
same_decided xs ys r d = same_from_decides r (same xs ys) d (same_true xs ys, λ e. rw e (same_self ys))

module _ (xs before middle after : List ℕ) where
  abbrev whole : List ℕ
  whole = before ++ (middle ++ after)

  pub not_long : (length xs ≡ length before + length middle + length after → ⊥) → false ≡ same xs whole
  not_long ne = sym (ne_same xs whole (λ e. ne (ap (λ (l : List ℕ). length l) e ∙ simp length-append (omega arith))))

  pub not_first : ((rest : List ℕ) → xs ≡ before ++ rest → ⊥) → false ≡ same xs whole
  not_first ne = sym (ne_same xs whole (ne (middle ++ after)))

  module _ (rest : List ℕ) (e : xs ≡ before ++ rest) where
    cut : xs ≡ whole → rest ≡ middle ++ after
    cut q = append_cancel_left before rest (middle ++ after) (sym e ∙ q)

    pub not_second : ((last : List ℕ) → rest ≡ middle ++ last → ⊥) → false ≡ same xs whole
    not_second ne = sym (ne_same xs whole (λ q. ne after (cut q)))

    pub all_three : (last : List ℕ) → rest ≡ middle ++ last → (r : Bool) → Decides r (last ≡ after) → r ≡ same xs whole
    all_three last f r d =
        same_decided xs whole r (
          (λ t. e ∙ ap (λ (l : List ℕ). before ++ l) (f ∙ ap (λ (l : List ℕ). middle ++ l) (d.0 t))),
          λ q. d.1 (append_cancel_left middle last after (sym f ∙ cut q)),
        )

-- Whether a list is another with a number put in at a place, and without what stands there: past the end is at the end.
module _ (xs ys : List ℕ) (place k : ℕ) (m : k ≡ min place (length xs)) (r : Bool) where
  pub is_with : (x : ℕ) → r ≡ same ys (take k xs ++ ((x ∷ []) ++ take (length xs - k) (drop k xs))) → r ≡ same ys (put_in place (x ∷ []) xs)
  unfolding put_in
  is_with x e = rw (front_lent xs place k m, back_lent xs place k m) at e

  pub is_without : (next : ℕ) → next ≡ min (k + 1) (length xs) → r ≡ same ys (take k xs ++ ([] ++ take (length xs - next) (drop next xs))) → r ≡ same ys (taken_out place 1 xs)
  unfolding taken_out
  is_without next n e = rw (front_lent xs place k m, back_lent xs (place + 1) next (omega arith)) at e
