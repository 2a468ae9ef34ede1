-- Numbers in a list: what holds of each, that no two are the same, and the runs that the calls take.
-- Assumes nothing.
use Prim.Native.Nat.{ℕ, zero, suc, ◌+◌, ◌<◌, ◌≤◌}
use mathlib.Core.Path.{◌≡◌, sym, ◌∙◌}
use mathlib.Core.List.{List, [], ◌∷◌, ◌++◌, map}
use native.Mathlib.Omega.{arith}
use native.Mathlib.Nat.{not-suc-le-zero, le_of_suc-le-suc}
use lib.ListN.{length, get_or, take}
use lib.Seq.{slice, length-slice, get_or-drop, get_or-take}
use Rattle.id_tables.specs.Ids.{Ids}
use Rattle.id_tables.specs.Runs.{up_from, length_up_from, up_from_at}

-- this holds of each of these
abbrev pub Each : (ℕ → Type 0) → List ℕ → Type 0
Each P ns = (i : ℕ) → i < length ns → P (get_or ns i 0)

-- m is none of these
abbrev pub Absent : ℕ → List ℕ → Type 0
Absent m ns = Each (λ n. n ≡ m → ⊥) ns

-- what stands at i does not stand again
abbrev pub Last : List ℕ → ℕ → Type 0
Last ns i = (j : ℕ) → i < j → j < length ns → get_or ns i 0 ≡ get_or ns j 0 → ⊥

-- no two of these are the same
abbrev pub Different : List ℕ → Type 0
Different ns = (i : ℕ) → Last ns i

pub each_two : (P : ℕ → Type 0) (ms ns : List ℕ) → Each P ms → Each P ns → Each P (ms ++ ns)
each_two P [] ns a b i h = b i h
each_two P (m ∷ ms) ns a b zero h = a zero (omega arith)
each_two P (m ∷ ms) ns a b (suc i) h = each_two P ms ns (λ j k. a (suc j) (omega arith)) b i (le_of_suc-le-suc h)

pub each_map : (P : ℕ → Type 0) (f : ℕ → ℕ) (ns : List ℕ) → Each (λ n. P (f n)) ns → Each P (map f ns)
each_map P f [] e i h = absurd (not-suc-le-zero h)
each_map P f (n ∷ ns) e zero h = e zero (omega arith)
each_map P f (n ∷ ns) e (suc i) h = each_map P f ns (λ j k. e (suc j) (omega arith)) i (le_of_suc-le-suc h)

pub different_two : (ms ns : List ℕ) → Different ms → Different ns → Each (λ m. Absent m ns) ms → Different (ms ++ ns)
different_two [] ns a b x i j h k e = b i j h k e
different_two (m ∷ ms) ns a b x i zero h k e = omega arith
different_two (m ∷ ms) ns a b x zero (suc j) h k e =
    each_two (λ n. n ≡ m → ⊥) ms ns (λ i l q. a zero (suc i) (omega arith) (omega arith) (sym q)) (x zero (omega arith)) j (le_of_suc-le-suc k) (sym e)
different_two (m ∷ ms) ns a b x (suc i) (suc j) h k e =
    different_two ms ns (λ p q l t. a (suc p) (suc q) (omega arith) (omega arith)) b (λ p l. x (suc p) (omega arith)) i j (le_of_suc-le-suc h) (le_of_suc-le-suc k) e

-- a part of a list
module _ (from to : ℕ) (l : List ℕ) (ends : to ≤ length l) where
  pub slice_at : (i : ℕ) → i < length (slice from to l) → get_or (slice from to l) i 0 ≡ get_or l (from + i) 0
  slice_at i h = get_or-drop from (take to l) i 0 ∙ get_or-take to l (from + i) 0 (omega (arith, length-slice from to l ends))

  pub slice_different : ((i j : ℕ) → i < j → j < to → get_or l i 0 ≡ get_or l j 0 → ⊥) → Different (slice from to l)
  slice_different d i j h k e =
      d (from + i) (from + j) (omega arith) (omega (arith, length-slice from to l ends)) (sym (slice_at i (omega arith)) ∙ e ∙ slice_at j k)

-- ascending numbers
module _ (n k : ℕ) where
  pub up_each : (P : ℕ → Type 0) → ((i : ℕ) → i < k → P (n + i)) → Each P (up_from n k)
  up_each P f i h = let l : i < k = omega (arith, length_up_from n k) in rw (up_from_at n k i l) (f i l)

  pub up_different : Different (up_from n k)
  up_different i j h l e =
      let j< : j < k = omega (arith, length_up_from n k) in
      omega (arith, sym (up_from_at n k i (omega arith)) ∙ e ∙ up_from_at n k j j<)

-- new numbers beside numbers that are below them, in either order
module _ (n k : ℕ) (ms : List ℕ) (d : Different ms) (below : Each (λ m. m < n) ms) where
  pub new_last : Different (ms ++ up_from n k)
  new_last = different_two ms (up_from n k) d (up_different n k) (λ i h. up_each n k (λ u. u ≡ get_or ms i 0 → ⊥) (λ j l e. omega (arith, below i h)))

  pub new_first : Different (up_from n k ++ ms)
  new_first =
      different_two (up_from n k) ms (up_different n k) d (up_each n k (λ u. Absent u ms) (λ j l i h e. omega (arith, below i h)))

-- no two pending numbers are the same
abbrev pub PendingDiffer : Ids → Type 0
PendingDiffer s = (i j : ℕ) → i < j → j < s.head.pending → get_or s.pending i 0 ≡ get_or s.pending j 0 → ⊥
