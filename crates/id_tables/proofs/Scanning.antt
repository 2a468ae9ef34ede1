-- Scans that no entry ends: what was found so far, or what is left of the list, decides.
-- Assumes nothing.
use Rattle.std.proofs.Common.{◌≡◌, ℕ, suc, ◌+◌, ◌-◌, ◌%◌, ◌<◌, ◌≤◌, min, Bool, true, false, not, ◌&&◌, ◌||◌, eqb, leb, List, [], ◌∷◌, ◌++◌, length, get_or, drop, sym, refl, ap, ◌∙◌, length-append, drop-drop, add-one, arith, drop_of_length-le, drop-cons, eq-eqb, ne_eqb, eqb-true, leb-false, leb-true}
use mathlib.Core.Bool.{or-true, or-false, or_assoc}
use borrow.Author.Tests.{eqb-false, lt-leb}
use lib.Bits.{bit_and, and_le_l, and_le_r, and_self}
use lib.ListN.{get_or-eq_default}
use lib.Seq.{drop-append_seam}
use Rattle.refusal.specs.Truth.{neither}
use Rattle.handle.specs.Bits.{MAX}
use Rattle.id_tables.specs.Ids.{damaged_in, any_damaged_in}
use Rattle.id_tables.specs.Lookup.{any_is}
use Rattle.id_tables.specs.Runs.{any_past}
use Rattle.id_tables.proofs.Damage.{damage_cons}

-- the whole holds where it was found so far, or holds of the rest
pub record Sofar (whole found rest : Bool) : Type 0 where
  pub same : whole ≡ (found || rest)

pub none_yet : {rest : Bool} → Sofar rest false rest
none_yet = record { same = refl }

module _ {whole found rest : Bool} (s : Sofar whole found rest) where
  -- the first of the rest holds, or does not
  pub hit : {here rest' found' : Bool} → rest ≡ (here || rest') → here ≡ true → found' ≡ true → Sofar whole found' rest'
  hit e h f = record { same = s.same ∙ rw (e, h, f) (or-true found) }

  pub miss : {here rest' found' : Bool} → rest ≡ (here || rest') → here ≡ false → found' ≡ found → Sofar whole found' rest'
  miss e h f = record { same = s.same ∙ rw (e, h, f) }

  pub all_seen : rest ≡ false → found ≡ whole
  all_seen e = sym (s.same ∙ rw e (or-false found))

-- the first of the rest, and the end
module _ (n : ℕ) (ms : List ℕ) (i : ℕ) where
  pub any_cons : i < length ms → any_is n (drop i ms) ≡ (eqb (get_or ms i 0) n || any_is n (drop (i + 1) ms))
  unfolding any_is
  any_cons h = rw (drop-cons ms i 0, add-one i)

  pub any_end : length ms ≤ i → any_is n (drop i ms) ≡ false
  unfolding any_is
  any_end h = rw (drop_of_length-le ms h)

  pub past_cons : i < length ms → any_past n (drop i ms) ≡ (leb n (get_or ms i 0) || any_past n (drop (i + 1) ms))
  unfolding any_past
  past_cons h = rw (drop-cons ms i 0, add-one i)

  pub past_end : length ms ≤ i → any_past n (drop i ms) ≡ false
  unfolding any_past
  past_end h = rw (drop_of_length-le ms h)

-- numbers that are all below a limit
pub none_past : (limit : ℕ) (ns : List ℕ) → ((i : ℕ) → get_or ns i 0 < limit) → any_past limit ns ≡ false
unfolding any_past
none_past limit [] h = refl
none_past limit (n ∷ ns) h = simp (lt-leb limit n (h 0), none_past limit ns (λ i. h (suc i)))

-- a search by blocks
any_two : (n : ℕ) (ms ns : List ℕ) → any_is n (ms ++ ns) ≡ (any_is n ms || any_is n ns)
unfolding any_is
any_two n [] ns = refl
any_two n (m ∷ ms) ns = rw (any_two n ms ns) (sym (or_assoc (eqb m n) (any_is n ms) (any_is n ns)))

-- what is left past whole blocks of 64
pub record Left (all rest : List ℕ) : Type 0 where
  pub ends : rest ≡ drop (length all - length rest) all
  pub blocks : length rest % 64 ≡ length all % 64
  pub within : length rest ≤ length all

pub left_all : (all : List ℕ) → Left all all
left_all all = record { ends = let z : length all - length all ≡ 0 = omega arith in rw z; blocks = refl; within = omega arith }

pub left_more : (all was block rest : List ℕ) → was ≡ block ++ rest → length block ≡ 64 → Left all was → Left all rest
left_more all was block rest e k l =
    let m : length was ≡ 64 + length rest = ap length e ∙ length-append block rest ∙ rw k in
    let d : rest ≡ drop 64 was = rw (e, ← k) (sym (drop-append_seam block rest)) in
    let q : (length all - length was) + 64 ≡ length all - length rest = omega (arith, l.within) in
    record {
      ends = d ∙ ap (drop 64) l.ends ∙ drop-drop 64 (length all - length was) all ∙ rw q;
      blocks = omega (arith, l.blocks);
      within = omega (arith, l.within);
    }

pub left_last : (all rest : List ℕ) → length rest < 64 → Left all rest → rest ≡ drop (length all - length all % 64) all
left_last all rest h l = let q : length rest ≡ length all % 64 = omega (arith, l.blocks) in l.ends ∙ rw q

module _ (n : ℕ) (all block rest : List ℕ) (e : all ≡ block ++ rest) where
  pub block_has : any_is n block ≡ true → any_is n all ≡ true
  block_has h = rw (e, any_two n block rest, h)

  pub block_lacks : any_is n block ≡ false → any_is n all ≡ any_is n rest
  block_lacks h = rw (e, any_two n block rest, h)

-- a number past where a list ends
below_longer : (a b : ℕ) (ns : List ℕ) → a ≤ b → any_past a ns ≡ false → any_past b ns ≡ false
unfolding any_past
below_longer a b [] h e = refl
below_longer a b (n ∷ ns) h e =
    let p = neither (leb a n) (any_past a ns) e in
    let l : n < b = omega (arith, leb-false a n p.0) in
    simp (lt-leb b n l, below_longer a b ns h p.1)

module _ (used : ℕ) (generations indices : List ℕ) where
  abbrev limit : ℕ
  limit = min used (min (length generations) (length indices))

  -- a number that the tables do not have is damaged
  damaged_past : (n : ℕ) → limit ≤ n → damaged_in used generations indices n ≡ true
  unfolding damaged_in
  damaged_past n h = by (leb used n) (leb (length generations) n) refl refl
    where
      by : (a b : Bool) → leb used n ≡ a → leb (length generations) n ≡ b → (leb used n || (eqb (get_or generations n 0) 0 || not (eqb (get_or indices n 0) MAX))) ≡ true
      by true b p q = rw p
      by false true p q = simp (p, get_or-eq_default generations 0 (leb-true (length generations) n q))
      by false false p q =
          let u = leb-false used n p in
          let g = leb-false (length generations) n q in
          let x : length indices ≤ n = omega arith in
          simp (p, get_or-eq_default indices 0 x, or-true)

  pub any_outside : (ns : List ℕ) → any_past limit ns ≡ true → any_damaged_in used generations indices ns ≡ true
  unfolding any_past any_damaged_in
  any_outside [] e = e
  any_outside (n ∷ ns) e = by (leb limit n) refl e (any_outside ns)
    where
      by : (t : Bool) → leb limit n ≡ t → (t || any_past limit ns) ≡ true → (any_past limit ns ≡ true → any_damaged_in used generations indices ns ≡ true)
          → (damaged_in used generations indices n || any_damaged_in used generations indices ns) ≡ true
      by true p q f = rw (damaged_past n (leb-true limit n p))
      by false p q f = rw (f q) (or-true (damaged_in used generations indices n))

  pub any_within : (ns : List ℕ) → any_past limit ns ≡ false → (any_past (length generations) ns ≡ false) × (any_past (length indices) ns ≡ false)
  any_within ns e = (below_longer limit (length generations) ns (omega arith) e, below_longer limit (length indices) ns (omega arith) e)

  -- of numbers below used and the length, used and the length say the same
  same_damage : (n : ℕ) → n < limit → damaged_in (length generations) generations indices n ≡ damaged_in used generations indices n
  unfolding damaged_in
  same_damage n h =
      let u : n < used = omega arith in
      let g : n < length generations = omega arith in
      simp (lt-leb used n u, lt-leb (length generations) n g)

  pub any_inside : (ns : List ℕ) → any_past limit ns ≡ false → any_damaged_in (length generations) generations indices ns ≡ any_damaged_in used generations indices ns
  unfolding any_past any_damaged_in
  any_inside [] e = refl
  any_inside (n ∷ ns) e =
      let p = neither (leb limit n) (any_past limit ns) e in
      rw (same_damage n (leb-false limit n p.0), any_inside ns p.1)

-- a count of zeros and the bits that all values share say whether one was 0, or one not MAX
unfoldable pub lost : ℕ → ℕ → Bool
lost zeros shared = not (eqb zeros 0) || not (eqb shared MAX)

pub none_lost : {rest : Bool} → Sofar rest (lost 0 MAX) rest
unfolding lost
none_lost = record { same = refl }

pub lost_some : {whole rest : Bool} (zeros shared : ℕ) → Sofar whole (lost zeros shared) rest → (zeros ≡ 0 → ⊥) → true ≡ whole
unfolding lost
lost_some zeros shared s h = sym (s.same ∙ simp (ne_eqb zeros 0 h))

pub lost_is : (zeros shared : ℕ) → zeros ≡ 0 → not (eqb shared MAX) ≡ lost zeros shared
unfolding lost
lost_is zeros shared e = rw e

shared_max : (a b : ℕ) → a ≤ MAX → b ≤ MAX → eqb (bit_and a b) MAX ≡ (eqb a MAX && eqb b MAX)
shared_max a b h k = by (eqb a MAX) (eqb b MAX) refl refl
  where
    by : (x y : Bool) → eqb a MAX ≡ x → eqb b MAX ≡ y → eqb (bit_and a b) MAX ≡ (x && y)
    by true true p q =
        let s : a ≡ b = eqb-true a MAX p ∙ sym (eqb-true b MAX q) in
        eq-eqb (bit_and a b) MAX (rw s (and_self b ∙ eqb-true b MAX q))
    by true false p q = ne_eqb (bit_and a b) MAX (λ e. eqb-false b MAX q (omega (arith, and_le_r a b)))
    by false y p q = ne_eqb (bit_and a b) MAX (λ e. eqb-false a MAX p (omega (arith, and_le_l a b)))

or_and : (z a b : Bool) → (not z || not (a && b)) ≡ ((not z || not a) || not b)
or_and true true b = refl
or_and true false b = refl
or_and false a b = refl

module _ (generations indices ns : List ℕ) (zeros shared i : ℕ) where
  abbrev n : ℕ
  n = get_or ns i 0

  abbrev rest : ℕ → Bool
  rest j = any_damaged_in (length generations) generations indices (drop j ns)

  module _ {whole : Bool} (s : Sofar whole (lost zeros shared) (rest i)) (h : i < length ns) where
    -- what is lost takes the first of the rest in
    taken_in : (zeros' shared' : ℕ) → lost zeros' shared' ≡ (lost zeros shared || damaged_in (length generations) generations indices n) → Sofar whole (lost zeros' shared') (rest (i + 1))
    taken_in zeros' shared' e =
        record { same = s.same ∙ rw (damage_cons (length generations) generations indices ns i h, e) (sym (or_assoc (lost zeros shared) (damaged_in (length generations) generations indices n) (rest (i + 1)))) }

    pub lost_zero : (zeros' shared' : ℕ) → get_or generations n 0 ≡ 0 → zeros' ≡ zeros + 1 → Sofar whole (lost zeros' shared') (rest (i + 1))
    unfolding damaged_in lost
    lost_zero zeros' shared' g z = taken_in zeros' shared' (simp (ne_eqb zeros' 0 (λ e. omega arith), eq-eqb _ _ g, or-true))

    pub lost_not : (zeros' shared' : ℕ) → n < length generations → (get_or generations n 0 ≡ 0 → ⊥) → zeros' ≡ zeros → shared' ≡ bit_and shared (get_or indices n 0) → shared ≤ MAX → get_or indices n 0 ≤ MAX
        → Sofar whole (lost zeros' shared') (rest (i + 1))
    unfolding damaged_in lost
    lost_not zeros' shared' l g z e k x =
        taken_in zeros' shared'
        (rw (z, e)
        (simp (lt-leb (length generations) n l, ne_eqb (get_or generations n 0) 0 g, shared_max shared (get_or indices n 0) k x)
        (or_and (eqb zeros 0) (eqb shared MAX) (eqb (get_or indices n 0) MAX))))
