-- The contracts determine the result and what is left of everything lent: no second result fits. One instance a function, under its name.
-- Assumes nothing.
use Prim.{Unit}
use Rattle.std.proofs.Common.{◌≡◌, ℕ, ◌-◌, Bool, List, Result, get_or, set, replicate, sym, ap, ◌∙◌}
use lib.Seq.{sets}
use Rattle.refusal.specs.Table.{Answer, answer_of, passing, Did}
use Rattle.refusal.specs.Laws.{sole_answer, sole}
use Rattle.refusal.specs.Distinct.{tells}
use Rattle.refusal.specs.declared.Refusal.{Refusal}
use Rattle.handle.specs.Bits.{handle_of}
use Rattle.handle.specs.RoundTrip as handle
use Rattle.handle.specs.declared.Handle.{Handle}
use Rattle.handle.specs.declared.Number.{Number}
use Rattle.handle.specs.declared.Place.{Place}
use Rattle.id_tables.specs.declared.head.Head.{Head}
use Rattle.id_tables.specs.Head as rule
use Rattle.id_tables.specs.Ids as table
use Rattle.id_tables.specs.Ids.{Ids, ids_of, capacity_rules, length_rules, entry}
use Rattle.id_tables.specs.Lookup.{containing, place_got, getting, setting_place, resolving, counting, clearing}

-- one result that is named outright
abbrev Sole : {R : Type 0} → R → Type 0
Sole {R} a = (r s : R) → r ≡ a → s ≡ a → r ≡ s

one : {R : Type 0} (a : R) → Sole a
one a r s d e = d ∙ sym e

-- one result that says what a rule says
abbrev Says : {A : Type 0} → Answer A → Type 0
Says {A} a = (r s : Result A Refusal) → answer_of r ≡ a → answer_of s ≡ a → r ≡ s

says : {A : Type 0} (a : Answer A) → Says a
says a r s d e = sole_answer answer_of tells r s d e

-- the head
module _ (h : Head) where
  pub free : Sole (rule.free_of h.cursor)
  free = one (rule.free_of h.cursor)

  pub fresh : Sole (rule.new_of h.cursor)
  fresh = one (rule.new_of h.cursor)

  pub is_flushed : Sole (rule.flushed h)
  is_flushed = one (rule.flushed h)

  pub fallen : (n : ℕ) → Sole (rule.fallen_fit h n)
  fallen n = one (rule.fallen_fit h n)

  pub head_tested : (capacity : ℕ) → Says (passing (rule.head_rules h capacity))
  head_tested capacity = says (passing (rule.head_rules h capacity))

-- the other first tests
pub capacity_tested : (capacity : ℕ) → Says (passing (capacity_rules capacity))
capacity_tested capacity = says (passing (capacity_rules capacity))

pub lengths_tested : (capacity archetypes indices pending : ℕ) → Says (passing (length_rules capacity archetypes indices pending))
lengths_tested capacity archetypes indices pending = says (passing (length_rules capacity archetypes indices pending))

pub flushed : (used pending live : ℕ) → Sole (rule.flushed_head used pending live)
flushed used pending live = one (rule.flushed_head used pending live)

-- entries of the tables
pub at : (table : List ℕ) (position : ℕ) → Sole (get_or table position 0)
at table position = one (get_or table position 0)

pub put : (table : List ℕ) (position value : ℕ) → Sole (set table position value)
put table position value = one (set table position value)

pub put_place : (archetypes indices : List ℕ) (number : Number) (place : Place) (a x a' x' : List ℕ)
    → (a ≡ set archetypes number.0 place.archetype) × (x ≡ set indices number.0 place.index.0)
    → (a' ≡ set archetypes number.0 place.archetype) × (x' ≡ set indices number.0 place.index.0) → (a ≡ a') × (x ≡ x')
put_place archetypes indices number place a x a' x' d e = (d.0 ∙ sym e.0, d.1 ∙ sym e.1)

pub fill : (table : List ℕ) (from to value : ℕ) → Sole (sets table from (replicate (to - from) value))
fill table from to value = one (sets table from (replicate (to - from) value))

-- the calls that change nothing lent
module _ (s : Ids) where
  pub place_at : (number : ℕ) → Sole (table.place_at s number)
  place_at number = one (table.place_at s number)

  pub is_damaged : (number : ℕ) → Sole (table.damaged s number)
  is_damaged number = one (table.damaged s number)

  pub is_live : (generation number : ℕ) → Sole (table.live s generation number)
  is_live generation number = one (table.live s generation number)

  pub any_damaged_lem : (numbers : List ℕ) → Sole (table.any_damaged s numbers)
  any_damaged_lem numbers = one (table.any_damaged s numbers)

  pub tested : (short : Bool) → Says (passing (entry s short))
  tested short = says (passing (entry s short))

  pub contains : (bits : ℕ) → Says (containing s bits)
  contains bits = says (containing s bits)

  pub got : (generation number : ℕ) → Says (place_got s generation number)
  got generation number = says (place_got s generation number)

  pub get : (bits : ℕ) → Says (getting s bits)
  get bits = says (getting s bits)

  pub resolve_unknown_gen_lem : (number : Number) (r r' : Result Handle Refusal) → handle_of r ≡ resolving s number.0 → handle_of r' ≡ resolving s number.0 → r ≡ r'
  resolve_unknown_gen_lem number r r' d e = sole_answer handle_of handle.tells r r' d e

  pub len : Says (counting s)
  len = says (counting s)

  -- and those that change the two tables of places, or the head
  abbrev left : List ℕ → List ℕ → Ids
  left a x = ids_of s.head s.generations a x s.pending

  pub set_place : (bits : ℕ) (place : Place) (r r' : Result (Unit {0}) Refusal) (a x a' x' : List ℕ) → Did (setting_place s bits place) s (answer_of r) (left a x)
      → Did (setting_place s bits place) s (answer_of r') (left a' x') → (r ≡ r') × (a ≡ a') × (x ≡ x')
  set_place bits place r r' a x a' x' d e =
      let p = sole answer_of tells r r' d e in (p.0, ap (λ (t : Ids). t.archetypes) p.1, ap (λ (t : Ids). t.indices) p.1)

  pub clear : (r r' : Result (Unit {0}) Refusal) (t t' : Ids) → Did (clearing s) s (answer_of r) t → Did (clearing s) s (answer_of r') t' → (r ≡ r') × (t ≡ t')
  clear r r' t t' d e = sole answer_of tells r r' d e
