-- The first tests of a store call: how they come together, and what passing them gives.
-- Assumes nothing.
use Prim.{tt}
use Prim.Native.Nat.{ℕ}
use mathlib.Core.Path.{◌≡◌, ◌∙◌}
use mathlib.Core.Bool.{Bool, true, false, not}
use mathlib.Core.List.{List, [], ◌∷◌, ◌++◌}
use lib.Dec.{eqb}
use lib.ListN.{length}
use borrow.Author.Tests.{eq-eqb, ne_eqb, eqb-true, not-false}
use Rattle.refusal.specs.Table.{Rule, ◌when◌, granted, refused, ◌or_else◌, passing}
use Rattle.refusal.specs.Laws.{stop, go, both, none_holds}
use Rattle.id_tables.specs.Head.{head_rules}
use Rattle.id_tables.specs.Ids.{capacity, capacity_rules, length_rules}
use Rattle.decl.specs.Decl.{columns}
use Rattle.column_entry.specs.Entry.{table_rules, count_rules}
use Rattle.id_tables.proofs.Entering.{runs_ok}
use Rattle.column_entry.proofs.Keeping.{tabled, counted}
use Rattle.store_tables.specs.Store.{Store, lent_rules, entry}
use Rattle.store_tables.specs.Kept.{Entered}

-- the lengths: those of the id tables, then those that only the store looks at
pub lengths_wrong : (capacity archetypes indices pending columns words : ℕ) (short : Bool) {m : ℕ} → refused m ≡ passing (length_rules capacity archetypes indices pending)
    → passing (lent_rules capacity archetypes indices pending columns words short) ≡ refused m
unfolding lent_rules
lengths_wrong capacity archetypes indices pending columns words short e = stop (length_rules capacity archetypes indices pending) _ _ e

module _ (capacity archetypes indices pending columns words : ℕ) (short : Bool) (e : granted tt ≡ passing (length_rules capacity archetypes indices pending)) where
  abbrev later : List Rule
  later = 13 when not (eqb words columns) ∷ 13 when short ∷ []

  past_lengths : passing (lent_rules capacity archetypes indices pending columns words short) ≡ passing later
  unfolding lent_rules
  past_lengths = go (length_rules capacity archetypes indices pending) later (granted tt) e

  pub words_wrong : (words ≡ columns → ⊥) → passing (lent_rules capacity archetypes indices pending columns words short) ≡ refused 13
  unfolding ◌or_else◌
  words_wrong h = past_lengths ∙ rw (ne_eqb _ _ h)

  pub value_wrong : words ≡ columns → short ≡ true → passing (lent_rules capacity archetypes indices pending columns words short) ≡ refused 13
  unfolding ◌or_else◌
  value_wrong h t = past_lengths ∙ rw (eq-eqb _ _ h, t)

  pub lent_right : words ≡ columns → short ≡ false → passing (lent_rules capacity archetypes indices pending columns words short) ≡ granted tt
  unfolding ◌or_else◌
  lent_right h t = past_lengths ∙ rw (eq-eqb _ _ h, t)

-- the runs of tests of a store call, in their order
module _ (s : Store) (short : Bool) where
  abbrev capacities : List Rule
  capacities = capacity_rules (capacity s.ids)

  abbrev tables : List Rule
  tables = table_rules s.decl s.rows

  abbrev lent : List Rule
  lent = lent_rules (capacity s.ids) (length s.ids.archetypes) (length s.ids.indices) (length s.ids.pending) (columns s.decl) (length s.words) short

  abbrev heads : List Rule
  heads = head_rules s.ids.head (capacity s.ids)

  abbrev counts : List Rule
  counts = count_rules s.decl.rows s.rows.counts

  pub at_capacity : {m : ℕ} → refused m ≡ passing capacities → passing (entry s short) ≡ refused m
  unfolding entry
  at_capacity e = stop capacities (tables ++ (lent ++ (heads ++ counts))) (granted tt) e

  module _ (c : granted tt ≡ passing capacities) where
    past_capacity : passing (entry s short) ≡ passing (tables ++ (lent ++ (heads ++ counts)))
    unfolding entry
    past_capacity = go capacities (tables ++ (lent ++ (heads ++ counts))) (granted tt) c

    pub at_tables : {m : ℕ} → refused m ≡ passing tables → passing (entry s short) ≡ refused m
    at_tables e = past_capacity ∙ stop tables (lent ++ (heads ++ counts)) (granted tt) e

    module _ (t : granted tt ≡ passing tables) where
      past_tables : passing (entry s short) ≡ passing (lent ++ (heads ++ counts))
      past_tables = past_capacity ∙ go tables (lent ++ (heads ++ counts)) (granted tt) t

      -- there are as many columns as types
      abbrev seen : ℕ → List Rule
      seen columns = lent_rules (capacity s.ids) (length s.ids.archetypes) (length s.ids.indices) (length s.ids.pending) columns (length s.words) short

      all_columns : length s.decl.types ≡ columns s.decl
      all_columns = (tabled s.decl s.rows t).kept.declared.shaped.types_long

      pub at_lent : {m : ℕ} → refused m ≡ passing (seen (length s.decl.types)) → passing (entry s short) ≡ refused m
      at_lent e = past_tables ∙ stop lent (heads ++ counts) (granted tt) (rw all_columns at e)

      module _ (l : granted tt ≡ passing (seen (length s.decl.types))) where
        past_lent : passing (entry s short) ≡ passing (heads ++ counts)
        past_lent = past_tables ∙ go lent (heads ++ counts) (granted tt) (rw all_columns at l)

        pub at_head : {m : ℕ} → refused m ≡ passing heads → passing (entry s short) ≡ refused m
        at_head e = past_lent ∙ stop heads counts (granted tt) e

        pub at_counts : granted tt ≡ passing heads → passing (entry s short) ≡ passing counts
        at_counts e = past_lent ∙ go heads counts (granted tt) e

-- what passing them gives
pub entered : (s : Store) (short : Bool) → granted tt ≡ passing (entry s short) → Entered s
unfolding entry lent_rules
entered s short e =
    let a = both (capacities s short) (tables s short ++ (lent s short ++ (heads s short ++ counts s short))) e in
    let b = both (tables s short) (lent s short ++ (heads s short ++ counts s short)) a.1 in
    let c = both (lent s short) (heads s short ++ counts s short) b.1 in
    let d = both (heads s short) (counts s short) c.1 in
    let l = both (length_rules (capacity s.ids) (length s.ids.archetypes) (length s.ids.indices) (length s.ids.pending)) _ c.0 in
    record {
      ids = runs_ok s.ids a.0 l.0 d.0;
      rows = counted s.decl s.rows (tabled s.decl s.rows b.0) d.1;
      words_long = eqb-true _ _ (not-false _ (none_holds _ l.1).0);
    }

-- a value or an output is of the right length
pub entered_right : (s : Store) (short : Bool) → granted tt ≡ passing (entry s short) → short ≡ false
unfolding entry lent_rules
entered_right s short e =
    let a = both (capacities s short) (tables s short ++ (lent s short ++ (heads s short ++ counts s short))) e in
    let b = both (tables s short) (lent s short ++ (heads s short ++ counts s short)) a.1 in
    let c = both (lent s short) (heads s short ++ counts s short) b.1 in
    (none_holds _ (both (length_rules (capacity s.ids) (length s.ids.archetypes) (length s.ids.indices) (length s.ids.pending)) _ c.0).1).1.0
