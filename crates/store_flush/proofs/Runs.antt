-- Numbers in successive places of a table: a loop's step, two runs that make one, what stands where.
-- Assumes nothing.
use Prim.Native.Nat.{ℕ, ◌+◌, ◌<◌, ◌≤◌}
use mathlib.Core.Path.{◌≡◌, refl, sym, ◌∙◌}
use mathlib.Core.List.{List, ◌++◌}
use native.Mathlib.Omega.{arith}
use lib.ListN.{length, get_or, set, length-append}
use Rattle.id_tables.specs.Runs.{up_from, length_up_from, up_from_at}
use Rattle.id_batches.proofs.Setting.{Rest, rest_next, rest_none, up_in, up_here, up_end, up_from_append, set_long, set_two}
use Rattle.id_batches.proofs.Numbers.{up_each, up_different}
use Rattle.id_batches.proofs.Seats.{set_here, set_other}
use Rattle.store_flush.specs.Flush.{listed}

module _ {l₀ l vs : List ℕ} {i : ℕ} (place : ℕ) (e : Rest l₀ l (up_from place (length vs)) vs i) where
  pub list_next : (p v : ℕ) → i < length vs → p ≡ place + i → v ≡ get_or vs i 0 → Rest l₀ (set l p v) (up_from place (length vs)) vs (i + 1)
  list_next p v h q r = rest_next e (up_in place h) h (q ∙ up_here place h) r refl

  pub list_end : length vs ≤ i → l ≡ listed l₀ place vs
  list_end h = rest_none e (up_end place h)

-- two runs, the one after the other, are one
pub listed_two : (l us vs : List ℕ) (place : ℕ) → listed l place (us ++ vs) ≡ listed (listed l place us) (place + length us) vs
listed_two l us vs place =
    rw (length-append us vs, up_from_append place (length us) (length vs)) (set_two l (up_from place (length us)) (up_from (place + length us) (length vs)) us vs (length_up_from place (length us)))

-- what stands in those places, and elsewhere
module _ (l vs : List ℕ) (place : ℕ) where
  pub listed_long : length (listed l place vs) ≡ length l
  listed_long = set_long l (up_from place (length vs)) vs

  pub listed_here : (i : ℕ) → i < length vs → place + length vs ≤ length l → get_or (listed l place vs) (place + i) 0 ≡ get_or vs i 0
  listed_here i h b =
      let e = up_from_at place (length vs) i h in
      rw e at (set_here l (up_from place (length vs)) vs i (up_in place h) h (rw e (omega arith)) (up_different place (length vs) i))

  pub listed_other : (p : ℕ) → ((i : ℕ) → i < length vs → p ≡ place + i → ⊥) → get_or (listed l place vs) p 0 ≡ get_or l p 0
  listed_other p a = set_other l (up_from place (length vs)) vs p (up_each place (length vs) (λ n. n ≡ p → ⊥) (λ i h e. a i h (sym e)))
