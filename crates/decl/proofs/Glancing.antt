-- The quick look at the columns: what it notes of them, and that columns it finds plain keep the rules.
-- Assumes nothing.
use Prim.Native.Nat.{ℕ, zero, suc, ◌+◌, ◌-◌, ◌*◌, ◌%◌, ◌^◌, ◌≤◌, ◌<◌}
use mathlib.Core.Bool.{true}
use mathlib.Core.Path.{◌≡◌, refl, sym, ap, ◌∙◌}
use mathlib.Core.Logic.{◌⊎◌, ⊎_elim}
use mathlib.Core.List.{List, [], ◌∷◌}
use native.Mathlib.Nat.{not-suc-le-zero, eq-or-lt_of_le, add-suc}
use native.Mathlib.Numerals.{add-one}
use native.Mathlib.Omega.{arith}
use lib.Bits.{bit_or}
use lib.ListN.{length, get_or, set, take, drop, replicate, length-set, length-take}
use lib.Seq.{drop-cons, get_or-take, get_or-drop, get_or-set_same, get_or-set_other}
use Rattle.std.specs.Prelude.{Some}
use Rattle.decl.specs.Limits.{max_archetypes, max_columns, max_size}
use Rattle.decl.specs.Lists.{sum, first_of, part_of, rising}
use Rattle.decl.specs.Steps.{Noted, mark_from, Orderly, MarkAt, Marked, Plain}
use Rattle.decl.specs.declared.quick.Mark.{Mark}
use Rattle.decl.proofs.Lists.{below_or_not, rising_all, part_lent}

-- of the numbers below p + 1: p itself, or one below it
pub last_or_before : (k p : ℕ) → k < p + 1 → (k ≡ p) ⊎ (k < p)
last_or_before k p h = eq-or-lt_of_le {n = k} {m = p} (omega arith)

module _ (types sizes seen sized : List ℕ) (p : ℕ) (n : Noted types sizes seen sized p) where
  -- columns of one type have one size
  pub noted_one : (i j : ℕ) → i < p → j < p → get_or types i 0 ≡ get_or types j 0 → get_or sizes i 0 ≡ get_or sizes j 0
  noted_one i j h m e = sym (n.alike i h) ∙ ap (λ (x : ℕ). get_or sized (x % 64) 0) e ∙ n.alike j m

-- what the walk through an archetype's columns knows before column p: those passed ascend to below `least` and are not too large, and the sizes that are left complete their width
pub record Going (types sizes : List ℕ) (from to width least p : ℕ) : Type 0 where
  pub on_way : from ≤ p
  pub small : (k : ℕ) → from ≤ k → k < p → get_or sizes k 0 ≤ max_size
  pub rises : (k : ℕ) → from ≤ k → suc k < p → get_or types k 0 < get_or types (suc k) 0
  pub below : (k : ℕ) → from ≤ k → k < p → get_or types k 0 < least
  pub wide : sum (take (to - from) (drop from sizes)) ≡ width + sum (take (to - p) (drop p sizes))
  pub narrow : width ≤ max_size * (p - from)

-- what is left to walk begins with its first
left_from : (xs : List ℕ) (p to : ℕ) → p < to → p < length xs → take (to - p) (drop p xs) ≡ get_or xs p 0 ∷ take (to - (p + 1)) (drop (p + 1) xs)
left_from xs p to h i = let z : to - p ≡ suc (to - suc p) = omega arith in rw (z, drop-cons xs p 0, add-one p)

none_left : (xs : List ℕ) (p to : ℕ) → to ≤ p → take (to - p) (drop p xs) ≡ []
none_left xs p to h = let z : to - p ≡ 0 = omega arith in rw z

module _ (types : List ℕ) (from to : ℕ) where
  -- the mark of the types passed, which those that are left complete
  abbrev pub Marking : ℕ → ℕ → Type 0
  Marking mark p = mark_from 0 (take (to - from) (drop from types)) ≡ mark_from mark (take (to - p) (drop p types))

  pub marking_next : (mark p : ℕ) → Marking mark p → p < to → to ≤ length types → Marking (bit_or mark ((1 * 2 ^ (get_or types p 0 % 64)) % 2 ^ 64)) (p + 1)
  unfolding mark_from
  marking_next mark p g h l = g ∙ ap (mark_from mark) (left_from types p to h (omega arith))

  marking_end : (mark p : ℕ) → Marking mark p → to ≤ p → mark ≡ mark_from 0 (take (to - from) (drop from types))
  unfolding mark_from
  marking_end mark p g l = sym (g ∙ ap (mark_from mark) (none_left types p to l))

module _ (types sizes : List ℕ) (from to : ℕ) where
  pub going_next : {width least p : ℕ} → Going types sizes from to width least p → p < to → to ≤ length sizes → least ≤ get_or types p 0 → get_or sizes p 0 ≤ max_size
      → Going types sizes from to (width + get_or sizes p 0) (get_or types p 0 + 1) (p + 1)
  unfolding sum
  going_next {width} {least} {p} g h l e s =
      record {
        on_way = omega (arith, g.on_way);
        small = λ k a b. ⊎_elim (λ w. rw w s) (λ m. g.small k a m) (last_or_before k p b);
        rises = λ k a b. ⊎_elim (λ (w : suc k ≡ p). omega (arith, g.below k a (omega arith), ap (λ (z : ℕ). get_or types z 0) w)) (λ m. g.rises k a m) (last_or_before (suc k) p b);
        below = λ k a b. ⊎_elim (λ w. rw w (omega arith)) (λ m. omega (arith, g.below k a m)) (last_or_before k p b);
        wide = omega (arith, g.wide, ap sum (left_from sizes p to h (omega arith)));
        narrow = omega (arith, g.narrow, g.on_way);
      }

  pub going_end : {width least p : ℕ} → Going types sizes from to width least p → p ≤ to → to ≤ p → Orderly types sizes from to width
  unfolding sum
  going_end {p = p} g h l =
      let e : p ≡ to = omega arith in
      record {
        small = rw e at g.small;
        rises = rw e at g.rises;
        wide = omega (arith, g.wide, ap sum (none_left sizes p to l));
        narrow = rw e at g.narrow;
      }

  -- past the last column
  pub marked : {seen sized : List ℕ} {mark width least p : ℕ} → Noted types sizes seen sized p → Going types sizes from to width least p → Marking types from to mark p → p ≤ to → to ≤ p
      → MarkAt types sizes seen sized from to mark width
  marked {mark = mark} {p = p} n g m h l = let e : p ≡ to = omega arith in record { noted_to = rw e at n; orderly = going_end g h l; marked = marking_end types from to mark p m l }

-- the width of a row of few columns
pub mark_small : {types sizes seen sized : List ℕ} {from to : ℕ} {m : Mark} → Marked types sizes seen sized from to (Some m) → to ≤ from + max_columns → m.width ≤ max_size * max_columns
mark_small w h = omega (arith, w.told.orderly.narrow)

-- what the walk through the archetypes knows before archetype a, whose columns begin at `at`
pub record Passing (widths types sizes seen sized marks : List ℕ) (at a : ℕ) : Type 0 where
  pub long : length marks ≡ max_archetypes
  pub noted_to : Noted types sizes seen sized at
  pub small : (k : ℕ) → k < at → get_or sizes k 0 ≤ max_size
  pub rises : (b : ℕ) → b < a → rising (part_of widths types b) ≡ true
  pub marked : (b : ℕ) → b < a → get_or marks b 0 ≡ mark_from 0 (part_of widths types b)
  pub apart : (b c : ℕ) → b < c → c < a → get_or marks b 0 ≡ get_or marks c 0 → ⊥

-- tables of zeros, but for a type that does not belong there
pub zeros : (n s : ℕ) → ◌≡◌ {A = ℕ} (get_or (replicate n 0) s 0) 0
zeros zero s = refl
zeros (suc n) zero = refl
zeros (suc n) (suc s) = zeros n s

module _ (widths types sizes : List ℕ) where
  pub passing_start : (seen sized marks : List ℕ) → length seen ≡ 64 → length sized ≡ 64 → ((s : ℕ) → get_or sized s 0 ≡ 0) → length marks ≡ max_archetypes → Passing widths types sizes seen sized marks 0 0
  passing_start seen sized marks f g z m =
      record {
        long = m;
        noted_to = record { seen_long = f; sized_long = g; small = λ s. omega (arith, z s); like = λ k h. omega arith; alike = λ k h. omega arith };
        small = λ k h. omega arith;
        rises = λ b h. absurd (not-suc-le-zero h);
        marked = λ b h. omega arith;
        apart = λ b c h l. absurd (not-suc-le-zero l);
      }

  -- past an archetype whose columns are orderly, and whose mark is new
  module _ {seen sized seen' sized' marks : List ℕ} {at end a m width : ℕ} (w : Passing widths types sizes seen sized marks at a) (ha : at ≡ first_of widths a) (he : end ≡ first_of widths (a + 1))
      (q : MarkAt types sizes seen' sized' at end m width) (l : at ≤ end) (i : end ≤ length types) (k : a < max_archetypes) (new : (b : ℕ) → b < a → get_or marks b 0 ≡ m → ⊥) where
    lent_at : (j : ℕ) → j < end - at → get_or (take (end - at) (drop at types)) j 0 ≡ get_or types (at + j) 0
    lent_at j h = rw (get_or-take, get_or-drop)

    lent_rises : (j : ℕ) → suc j < end - at → get_or (take (end - at) (drop at types)) j 0 < get_or (take (end - at) (drop at types)) (suc j) 0
    lent_rises j h = rw (lent_at j (omega arith), lent_at (suc j) h, add-suc) (q.orderly.rises (at + j) (omega arith) (omega arith))

    own_rises : rising (part_of widths types a) ≡ true
    own_rises =
        rw (← part_lent widths types a at end ha he)
        (rising_all _ (λ j h. lent_rises j (omega (arith, length-take (end - at) (drop at types)))))

    own_mark : m ≡ mark_from 0 (part_of widths types a)
    own_mark = q.marked ∙ ap (mark_from 0) (part_lent widths types a at end ha he)

    other : (b : ℕ) → b < a → get_or (set marks a m) b 0 ≡ get_or marks b 0
    other b h = get_or-set_other marks a b m 0 (λ e. omega arith)

    own : get_or (set marks a m) a 0 ≡ m
    own = get_or-set_same marks a m 0 (omega (arith, w.long))

    pub passing_next : Passing widths types sizes seen' sized' (set marks a m) end (a + 1)
    passing_next =
        record {
          long = length-set marks a m ∙ w.long;
          noted_to = q.noted_to;
          small = λ j h. ⊎_elim (λ e. w.small j e) (λ e. q.orderly.small j e h) (below_or_not j at);
          rises = λ b h. ⊎_elim (λ e. rw e own_rises) (λ e. w.rises b e) (last_or_before b a h);
          marked = λ b h. ⊎_elim (λ e. ap (λ (z : ℕ). get_or (set marks a m) z 0) e ∙ own ∙ own_mark ∙ sym (ap (λ (z : ℕ). mark_from 0 (part_of widths types z)) e)) (λ e. other b e ∙ w.marked b e) (last_or_before b a h);
          apart = λ b c h j r. ⊎_elim
              (λ e. new b (omega arith) (sym (other b (omega arith)) ∙ r ∙ ap (λ (z : ℕ). get_or (set marks a m) z 0) e ∙ own))
              (λ e. w.apart b c h e (sym (other b (omega arith)) ∙ r ∙ other c e)) (last_or_before c a j);
        }

  -- past all of them
  pub passing_end : {seen sized marks : List ℕ} {at a n : ℕ} → Passing widths types sizes seen sized marks at a → at ≡ first_of widths a → a ≡ n → Plain widths types sizes n
  passing_end {seen} {sized} {marks} {at} w e h =
      rw (← h)
      (record {
        small = rw e at w.small;
        rises = w.rises;
        differ = λ b c l m q. w.apart b c l m (w.marked b (omega arith) ∙ ap (mark_from 0) q ∙ sym (w.marked c m));
        one_size = rw e at (noted_one types sizes seen sized at w.noted_to);
      })
