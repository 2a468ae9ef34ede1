-- Pending entries that a call uses: a scan for one that is damaged, and what it says that none is.
-- Assumes nothing.
use Rattle.std.proofs.Common.{◌≡◌, ℕ, zero, suc, ◌+◌, ◌<◌, ◌≤◌, false, ◌||◌, leb, List, [], ◌∷◌, length, get_or, drop, refl, ◌∙◌, le_of_suc-le-suc, not-suc-le-zero, add-one, arith, drop_of_length-le, drop-cons, leb-false}
use borrow.Author.Tests.{lt-leb}
use Rattle.id_tables.specs.Ids.{damaged_in, any_damaged_in}
use Rattle.id_tables.specs.Runs.{any_past}
use Rattle.refusal.specs.Truth.{neither}
use Rattle.id_tables.proofs.Meaning.{Undamaged, undamaged}

module _ (used : ℕ) (generations indices : List ℕ) where
  -- a scan: what is left of the numbers decides
  module _ (ns : List ℕ) (i : ℕ) where
    pub damage_cons : i < length ns → any_damaged_in used generations indices (drop i ns) ≡ (damaged_in used generations indices (get_or ns i 0) || any_damaged_in used generations indices (drop (i + 1) ns))
    unfolding any_damaged_in
    damage_cons h = rw (drop-cons ns i 0, add-one i)

    pub damage_next : i < length ns → damaged_in used generations indices (get_or ns i 0) ≡ false
        → any_damaged_in used generations indices (drop i ns) ≡ any_damaged_in used generations indices (drop (i + 1) ns)
    damage_next h e = damage_cons h ∙ rw e

    pub damage_none : length ns ≤ i → any_damaged_in used generations indices (drop i ns) ≡ false
    unfolding any_damaged_in
    damage_none h = rw (drop_of_length-le ns h)

  -- where none of them is damaged, each is whole
  pub none_damaged : (ns : List ℕ) → any_damaged_in used generations indices ns ≡ false → (i : ℕ) → i < length ns → Undamaged used generations indices (get_or ns i 0)
  unfolding any_damaged_in
  none_damaged [] e i h = absurd (not-suc-le-zero h)
  none_damaged (n ∷ ns) e zero h = undamaged used generations indices n (neither _ _ e).0
  none_damaged (n ∷ ns) e (suc i) h = none_damaged ns (neither (damaged_in used generations indices n) _ e).1 i (le_of_suc-le-suc h)

  -- and below every length that used does not pass
  pub none_past : (ns : List ℕ) → any_damaged_in used generations indices ns ≡ false → (n : ℕ) → used ≤ n → any_past n ns ≡ false
  unfolding any_damaged_in any_past
  none_past [] e n h = refl
  none_past (m ∷ ms) e n h =
      let p = neither (damaged_in used generations indices m) _ e in
      let l : m < n = omega (arith, (undamaged used generations indices m p.0).below) in
      simp (lt-leb n m l, none_past ms p.1 n h)

-- of numbers none of which is past a length, each is below it
pub below_at : (a : ℕ) (ns : List ℕ) → any_past a ns ≡ false → (i : ℕ) → i < length ns → get_or ns i 0 < a
unfolding any_past
below_at a [] e i h = absurd (omega arith)
below_at a (n ∷ ns) e zero h = leb-false a n (neither (leb a n) (any_past a ns) e).0
below_at a (n ∷ ns) e (suc i) h = below_at a ns (neither (leb a n) (any_past a ns) e).1 i (omega arith)
