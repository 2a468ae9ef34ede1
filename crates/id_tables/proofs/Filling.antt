-- One value in the entries of a table from a place to an end, or to where the table ends.
-- Assumes nothing.
use Rattle.std.proofs.Common.{◌≡◌, ℕ, zero, suc, ◌+◌, ◌-◌, ◌<◌, ◌≤◌, min, Bool, true, false, leb, List, [], ◌∷◌, length, take, drop, set, replicate, refl, sym, arith, length-set, leb-true, leb-false, not-suc-le-zero, append_assoc, drop-drop}
use Rattle.std.proofs.lemmas.List.Edits.{sets-eq}
use lib.ListN.{length-replicate}
use lib.Seq.{sets, set_out}
use borrow.Rule.Slice.PartMut.{put_mid}

sets_out : (l : List ℕ) (i : ℕ) (vs : List ℕ) → length l ≤ i → sets l i vs ≡ l
sets_out l i [] h = refl
sets_out l i (v ∷ vs) h = rw (set_out l i v h) (sets_out l (suc i) vs (omega arith))

-- where the entries end, or the table does, nothing is left to store
pub run_ends : (l : List ℕ) (i to : ℕ) (vs : List ℕ) → length vs ≡ to - i → min to (length l) ≤ i → sets l i vs ≡ l
run_ends l i to [] e h = refl
run_ends l i to (v ∷ vs) e h = sets_out l i (v ∷ vs) (omega arith)

-- more values than the table has entries left store no more
cut : (l : List ℕ) (i n m v : ℕ) → m ≤ n → length l ≤ i + m → sets l i (replicate n v) ≡ sets l i (replicate m v)
cut l i n zero v h k = sets_out l i (replicate n v) (omega arith)
cut l i zero (suc m) v h k = absurd (not-suc-le-zero h)
cut l i (suc n) (suc m) v h k = cut (set l i v) (suc i) n m v (omega arith) (omega (arith, length-set l i v))

module _ (l : List ℕ) (i to v : ℕ) where
  abbrev n : ℕ
  n = min to (length l) - i

  pub fill_none : min to (length l) ≤ i → l ≡ sets l i (replicate (to - i) v)
  fill_none h = sym (run_ends l i to (replicate (to - i) v) (length-replicate (to - i) v) h)

  fill_part : (b : Bool) → leb to (length l) ≡ b → i < min to (length l) → sets l i (replicate (to - i) v) ≡ sets l i (replicate n v)
  fill_part true e h = let k = leb-true to (length l) e in let q : n ≡ to - i = omega arith in rw q
  fill_part false e h = let k = leb-false to (length l) e in cut l i (to - i) n v (omega arith) (omega arith)

  pub fill_some : (new : List ℕ) → i < min to (length l) → new ≡ replicate n v → put_mid i n l new ≡ sets l i (replicate (to - i) v)
  fill_some new h e =
      rw (fill_part (leb to (length l)) refl h, sets-eq (replicate n v) l i (rw (length-replicate n v) (omega arith)), length-replicate n v, e, drop-drop n i l) (sym (append_assoc (take i l) (replicate n v) (drop (i + n) l)))
