-- The tests that every call runs first: how they come together, and what passing them gives.
-- Assumes nothing.
use Prim.{tt}
use Rattle.std.proofs.Common.{◌≡◌, ℕ, ◌-◌, ◌≤◌, Bool, true, false, List, ◌∷◌, ◌++◌, length, ◌∙◌, arith, ltb-false, eqb-true}
use borrow.Author.Tests.{not-false}
use Rattle.refusal.specs.Table.{Rule, ◌when◌, granted, refused, ◌or_else◌, passing}
use Rattle.refusal.specs.Laws.{stop, go, both, passed, none_holds}
use Rattle.id_tables.specs.Head.{new_of, head_rules}
use Rattle.id_tables.specs.Ids.{Ids, capacity_rules, length_rules, entry, EntryOk}

abbrev heads : Ids → List Rule
heads s = head_rules s.head (length s.generations)

abbrev capacities : Ids → List Rule
capacities s = capacity_rules (length s.generations)

abbrev lengths : Ids → List Rule
lengths s = length_rules (length s.generations) (length s.archetypes) (length s.indices) (length s.pending)

abbrev later : Ids → Bool → List Rule
later s short = 13 when short ∷ heads s

module _ (s : Ids) (short : Bool) where
  pub too_many : {m : ℕ} → refused m ≡ passing (capacities s) → passing (entry s short) ≡ refused m
  unfolding entry
  too_many e = stop (capacities s) (lengths s ++ later s short) (granted tt) e

  module _ (c : granted tt ≡ passing (capacities s)) where
    past_capacity : passing (entry s short) ≡ passing (lengths s ++ later s short)
    unfolding entry
    past_capacity = go (capacities s) (lengths s ++ later s short) (granted tt) c

    pub not_long : {m : ℕ} → refused m ≡ passing (lengths s) → passing (entry s short) ≡ refused m
    not_long e = past_capacity ∙ stop (lengths s) (later s short) (granted tt) e

    module _ (l : granted tt ≡ passing (lengths s)) where
      past_lengths : passing (entry s short) ≡ passing (later s short)
      past_lengths = past_capacity ∙ go (lengths s) (later s short) (granted tt) l

      pub is_short : short ≡ true → passing (entry s short) ≡ refused 13
      unfolding ◌or_else◌
      is_short t = past_lengths ∙ rw t

      pub at_head : short ≡ false → passing (entry s short) ≡ passing (heads s)
      unfolding ◌or_else◌
      at_head t = past_lengths ∙ rw t

-- what passing the first tests gives
pub runs_ok : (s : Ids) → granted tt ≡ passing (capacities s) → granted tt ≡ passing (lengths s) → granted tt ≡ passing (heads s) → EntryOk s
unfolding capacity_rules length_rules head_rules
runs_ok s c l e =
    let k = none_holds (capacities s) c in
    let p = none_holds (lengths s) l in
    let h = none_holds (heads s) e in
    record {
      small = ltb-false _ _ k.0;
      archetypes_long = eqb-true _ _ (not-false _ p.0);
      indices_long = eqb-true _ _ (not-false _ p.1.0);
      pending_long = eqb-true _ _ (not-false _ p.1.1.0);
      used_in = ltb-false _ _ h.0;
      pending_in = ltb-false _ _ h.1.0;
      free_in = ltb-false _ _ h.1.1.0;
      new_in = let f : new_of s.head.cursor ≤ length s.generations - s.head.used = ltb-false _ _ h.1.1.1.0 in
          let u : s.head.used ≤ length s.generations = ltb-false _ _ h.0 in
          omega arith;
      live_is = eqb-true _ _ (not-false _ h.1.1.1.1.0);
    }

pub entry_ok : (s : Ids) (short : Bool) → granted tt ≡ passing (entry s short) → EntryOk s
unfolding entry ◌or_else◌
entry_ok s short e =
    let b = both (capacities s) (lengths s ++ later s short) e in
    let d = both (lengths s) (later s short) b.1 in
    runs_ok s b.0 d.0 (passed 13 short (heads s) (granted tt) d.1).1

-- an output is long enough
pub entry_long : (s : Ids) (short : Bool) → granted tt ≡ passing (entry s short) → short ≡ false
unfolding entry
entry_long s short e = (none_holds (later s short) (both (lengths s) (later s short) (both (capacities s) (lengths s ++ later s short) e).1).1).0
