-- Entries that are each written as a function of their position says: a loop's step, and what the whole then is.
-- Assumes nothing.
use Prim.{tt}
use Prim.Native.Nat.{ℕ, zero, suc, ◌+◌, ◌<◌, ◌≤◌}
use mathlib.Core.Path.{◌≡◌, refl, sym, ◌∙◌}
use mathlib.Core.List.{List, [], ◌∷◌, ◌++◌}
use native.Mathlib.Omega.{arith}
use native.Mathlib.Nat.{not-suc-le-zero, le_of_suc-le-suc}
use native.Mathlib.Numerals.{add-one}
use lib.ListN.{length, get_or, take, drop, set}
use lib.Seq.{sets-eq}
use Rattle.std.proofs.Common.{append_assoc}
use Rattle.std.proofs.lemmas.List.{drop-drop}
use Rattle.id_tables.specs.Runs.{up_from}
use Rattle.id_batches.specs.Seating.{Written, set_each}
use Rattle.id_batches.proofs.Setting.{run_sets}

module _ {A : Type 0} (P : ℕ → A → Type 0) where
  pub written_none : (k : ℕ) → Written P k []
  unfolding Written
  written_none k = tt

  written_next : (k : ℕ) (l : List A) (i : ℕ) (v : A) → i < length l → Written P k (take i l) → P (k + i) v → Written P k (take (suc i) (set l i v))
  unfolding Written
  written_next k [] i v h w p = absurd (not-suc-le-zero h)
  written_next k (x ∷ l) zero v h w p = let e : k + 0 ≡ k = omega arith in (rw e at p, tt)
  written_next k (x ∷ l) (suc i) v h w p =
      let e : k + suc i ≡ k + 1 + i = omega arith in
      (w.0, written_next (k + 1) l i v (le_of_suc-le-suc h) w.1 (rw e at p))

  pub written_more : (l : List A) (i : ℕ) (v : A) → i < length l → Written P 0 (take i l) → P i v → Written P 0 (take (i + 1) (set l i v))
  written_more l i v h w p = let e : 0 + i ≡ i = omega arith in rw add-one (written_next 0 l i v h w (rw (← e) at p))

-- two lists agree where each value is what the other has at its position
written_is : (P : ℕ → ℕ → Type 0) (k : ℕ) (l vs : List ℕ) → Written P k l → length l ≡ length vs → ((i v : ℕ) → i < length vs → P (k + i) v → v ≡ get_or vs i 0) → l ≡ vs
unfolding Written
written_is P k [] [] w e f = refl
written_is P k [] (v ∷ vs) w e f = absurd (omega arith)
written_is P k (x ∷ l) [] w e f = absurd (omega arith)
written_is P k (x ∷ l) (v ∷ vs) w e f =
    let z : k + 0 ≡ k = omega arith in
    let here : x ≡ v = f 0 x (omega arith) (rw z w.0) in
    let rest : l ≡ vs = written_is P (k + 1) l vs w.1 (omega arith) (λ i u h p. f (suc i) u (omega arith) (let s : k + suc i ≡ k + 1 + i = omega arith in rw s p)) in
    rw (here, rest)

-- a part that is written whole is a run of entries that are set
pub written_at : (P : ℕ → ℕ → Type 0) (l part vs : List ℕ) (a k j : ℕ) → Written P 0 part → length part ≡ k → length vs ≡ k → j ≡ k → a + k ≤ length l
    → ((i v : ℕ) → i < k → P i v → v ≡ get_or vs i 0) → take a l ++ (part ++ drop j (drop a l)) ≡ set_each l (up_from a k) vs
written_at P l part vs a k j w long e q h f =
    let same : part ≡ vs = written_is P 0 part vs w (omega arith) (λ i v g p. f i v (omega arith) (let z : 0 + i ≡ i = omega arith in rw (← z) p)) in
    rw (same, q, ← e, drop-drop) (sym (rw append_assoc at (run_sets l vs a ∙ sets-eq vs l a (omega arith))))
