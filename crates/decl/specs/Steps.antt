-- What the private functions promise, beside the rules themselves. No public promise cites it.
use Prim.{Unit}
use Rattle.std.specs.Prelude.{ℕ, suc, ◌+◌, ◌-◌, ◌*◌, ◌%◌, ◌^◌, ◌≤◌, ◌<◌, Bool, true, false, not, ◌||◌, ◌≡◌, List, [], ◌∷◌, length, get_or, take, drop, Option, Some, None}
use Rattle.std.specs.Int.Bits.{bit_or}
use Rattle.refusal.specs.Table.{granted}
use Rattle.decl.specs.Limits.{max_columns, max_size}
use Rattle.decl.specs.Lists.{sum, first_of, part_of, rising, same, any_below}
use Rattle.decl.specs.Decl.{Decl}
use Rattle.decl.specs.Rules.{two_sizes}
use Rattle.decl.specs.Places.{too_large, measured}
use Rattle.decl.specs.declared.Part.{Part}
use Rattle.decl.specs.declared.Totals.{Totals}
use Rattle.decl.specs.declared.quick.Mark.{Mark}

-- the same types, or a type in common with two sizes
unfoldable pub clashing : List ℕ → List ℕ → List ℕ → List ℕ → Bool
clashing xs ss ys ts = same xs ys || two_sizes xs ss ys ts

-- part a of the columns does not ascend
abbrev pub falls : List ℕ → List ℕ → ℕ → Bool
falls widths types a = not (rising (part_of widths types a))

-- parts a and b of the columns clash
abbrev pub clash_at : List ℕ → List ℕ → List ℕ → ℕ → ℕ → Bool
clash_at widths types sizes a b =
    clashing (part_of widths types a) (part_of widths sizes a) (part_of widths types b) (part_of widths sizes b)

-- types and sizes go with each other, and each part of them ascends
pub record Risen (widths types sizes : List ℕ) : Type 0 where
  pub whole : sum widths ≤ length types
  pub paired : length sizes ≡ length types
  pub rises : any_below (length widths) (falls widths types) ≡ false

-- The walk to an archetype: rows n, columns w and bytes of a row of archetype a, whose columns begin at `column`.
pub record PartAt (rows widths sizes : List ℕ) (a column n w bytes : ℕ) : Type 0 where
  pub fits : too_large (get_or rows a 0) (get_or widths a 0) column (length sizes) ≡ false
  pub rows_are : n ≡ get_or rows a 0
  pub columns_are : w ≡ get_or widths a 0
  pub bytes_are : bytes ≡ sum (take (column + w - column) (drop column sizes))
  pub bytes_in : bytes ≤ 4294967295 * max_columns

abbrev pub PartIs : List ℕ → List ℕ → List ℕ → ℕ → ℕ → Option Part → Type 0
PartIs rows widths sizes a column (Some p) = PartAt rows widths sizes a column p.rows p.columns p.bytes
PartIs rows widths sizes a column None = too_large (get_or rows a 0) (get_or widths a 0) column (length sizes) ≡ true

pub record Parted (rows widths sizes : List ℕ) (a column : ℕ) (r : Option Part) : Type 0 where
  pub told : PartIs rows widths sizes a column r

-- The quick look: at the low bits of each type passed, `seen` holds the type and `sized` its size, which is not too large.
pub record Noted (types sizes seen sized : List ℕ) (p : ℕ) : Type 0 where
  pub seen_long : length seen ≡ 64
  pub sized_long : length sized ≡ 64
  pub small : (s : ℕ) → get_or sized s 0 ≤ max_size
  pub like : (k : ℕ) → k < p → get_or seen (get_or types k 0 % 64) 0 ≡ get_or types k 0
  pub alike : (k : ℕ) → k < p → get_or sized (get_or types k 0 % 64) 0 ≡ get_or sizes k 0

-- a mark of a list: a bit for the low bits of each number
unfoldable pub mark_from : ℕ → List ℕ → ℕ
mark_from m [] = m
mark_from m (x ∷ xs) = mark_from (bit_or m ((1 * 2 ^ (x % 64)) % 2 ^ 64)) xs

-- the columns from `from` up to, not including, `to` ascend, none is too large, and together they have this width
pub record Orderly (types sizes : List ℕ) (from to width : ℕ) : Type 0 where
  pub small : (k : ℕ) → from ≤ k → k < to → get_or sizes k 0 ≤ max_size
  pub rises : (k : ℕ) → from ≤ k → suc k < to → get_or types k 0 < get_or types (suc k) 0
  pub wide : width ≡ sum (take (to - from) (drop from sizes))
  pub narrow : width ≤ max_size * (to - from)

abbrev pub OrderIs : List ℕ → List ℕ → Option ℕ → Type 0
OrderIs types sizes (Some width) = Orderly types sizes 0 (length types) width
OrderIs types sizes None = Unit {0}

pub record Ordered (types sizes : List ℕ) (r : Option ℕ) : Type 0 where
  pub told : OrderIs types sizes r

-- the same with their mark, and all columns up to them noted
pub record MarkAt (types sizes seen sized : List ℕ) (from to m width : ℕ) : Type 0 where
  pub noted_to : Noted types sizes seen sized to
  pub orderly : Orderly types sizes from to width
  pub marked : m ≡ mark_from 0 (take (to - from) (drop from types))

abbrev pub MarkIs : List ℕ → List ℕ → List ℕ → List ℕ → ℕ → ℕ → Option Mark → Type 0
MarkIs types sizes seen sized from to (Some m) = MarkAt types sizes seen sized from to m.bits m.width
MarkIs types sizes seen sized from to None = Unit {0}

pub record Marked (types sizes seen sized : List ℕ) (from to : ℕ) (r : Option Mark) : Type 0 where
  pub told : MarkIs types sizes seen sized from to r

-- what the quick look settles
abbrev pub Settles : Decl → Option Totals → Type 0
Settles d (Some t) = granted t ≡ measured d
Settles d None = Unit {0}

pub record Settled (d : Decl) (r : Option Totals) : Type 0 where
  pub told : Settles d r

-- the first n archetypes keep the rules on types and sizes
pub record Plain (widths types sizes : List ℕ) (n : ℕ) : Type 0 where
  pub small : (k : ℕ) → k < first_of widths n → get_or sizes k 0 ≤ max_size
  pub rises : (a : ℕ) → a < n → rising (part_of widths types a) ≡ true
  pub differ : (a b : ℕ) → a < b → b < n → part_of widths types a ≡ part_of widths types b → ⊥
  pub one_size : (p q : ℕ) → p < first_of widths n → q < first_of widths n → get_or types p 0 ≡ get_or types q 0 → get_or sizes p 0 ≡ get_or sizes q 0
