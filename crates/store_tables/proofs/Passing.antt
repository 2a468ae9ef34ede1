-- Tables that are as the tests of a store call ask pass them: the first tests, the own place, the moved number.
-- Assumes nothing.
use Prim.{tt}
use mathlib.Core.Path.{◌≡◌, refl, sym, ◌∙◌}
use Prim.Native.Nat.{ℕ}
use mathlib.Core.Bool.{Bool, true, false}
use mathlib.Core.List.{[], ◌∷◌}
use lib.Dec.{eqb}
use lib.ListN.{length}
use borrow.Author.Tests.{eq-eqb, lt-ltb, lt-leb}
use Rattle.refusal.specs.Table.{◌when◌, Answer, granted, refused, passing, ◌or_else◌}
use Rattle.refusal.specs.Laws.{stop, go, past, halted}
use Rattle.handle.specs.Bits.{generation_in, number_in}
use Rattle.handle.specs.OnBits.{on_bits, on_first, on_past}
use Rattle.id_tables.specs.Head.{head_rules}
use Rattle.id_tables.specs.Ids.{capacity, capacity_rules, length_rules}
use Rattle.id_tables.proofs.Passing.{ok_parts}
use Rattle.column_entry.specs.Entry.{table_rules}
use Rattle.column_entry.proofs.Passing.{tables_pass, counts_pass}
use Rattle.decl.specs.Decl.{columns}
use Rattle.store_tables.specs.Store.{Store, lent_rules, entry}
use Rattle.store_tables.specs.Rows.{is_last, owns, moved_damaged}
use Rattle.store_tables.specs.Kept.{Entered}
use Rattle.store_tables.proofs.Places.{Owned}
use Rattle.store_tables.proofs.Vacating.{Moving}

pub entered_passes : (s : Store) (short : Bool) → Entered s → short ≡ false → granted tt ≡ passing (entry s short)
unfolding entry lent_rules ◌or_else◌
entered_passes s short e f =
    let p = ok_parts s.ids e.ids in
    sym (go (capacity_rules (capacity s.ids)) _ _ p.0
    ∙ (go (table_rules s.decl s.rows) _ _ (tables_pass s.decl s.rows e.rows.tabled)
    ∙ (go (lent_rules (capacity s.ids) (length s.ids.archetypes) (length s.ids.indices) (length s.ids.pending) (columns s.decl) (length s.words) short) _ _
    (sym (go (length_rules (capacity s.ids) (length s.ids.archetypes) (length s.ids.indices) (length s.ids.pending)) _ _ p.1 ∙ rw (eq-eqb _ _ e.words_long, f)))
    ∙ (go (head_rules s.ids.head (capacity s.ids)) _ _ p.2 ∙ sym (counts_pass s.decl s.rows e.rows)))))

-- with a value or an output of a wrong length they refuse 13
pub entered_short : (s : Store) → Entered s → refused 13 ≡ passing (entry s true)
unfolding entry lent_rules ◌or_else◌
entered_short s e =
    let p = ok_parts s.ids e.ids in
    sym (go (capacity_rules (capacity s.ids)) _ _ p.0
    ∙ (go (table_rules s.decl s.rows) _ _ (tables_pass s.decl s.rows e.rows.tabled)
    ∙ stop (lent_rules (capacity s.ids) (length s.ids.archetypes) (length s.ids.indices) (length s.ids.pending) (columns s.decl) (length s.words) true) _ _
    (sym (go (length_rules (capacity s.ids) (length s.ids.archetypes) (length s.ids.indices) (length s.ids.pending)) _ _ p.1 ∙ rw (eq-eqb _ _ e.words_long)))))

-- so a call's first tests are that one line
module _ (s : Store) (e : Entered s) where
  pub entry_line : {A : Type 0} (short : Bool) (a : Answer A) → (entry s short or_else a) ≡ (13 when short ∷ [] or_else a)
  unfolding ◌or_else◌
  entry_line true a = halted (entry s true) a (entered_short s e)
  entry_line false a = past (entry s false) a (entered_passes s false e refl)

  -- and of a call on a handle's bits, with 5
  pub bits_lines : {A : Type 0} (short : Bool) (bits : ℕ) (rest : ℕ → ℕ → Answer A)
      → on_bits (entry s short) bits rest ≡ (13 when short ∷ 5 when eqb (generation_in bits) 0 ∷ [] or_else rest (generation_in bits) (number_in bits))
  unfolding ◌or_else◌
  bits_lines true bits rest = on_first (entry s true) bits rest (entered_short s e)
  bits_lines false bits rest = on_past (entry s false) bits rest (entered_passes s false e refl)

-- a number in its own place
pub owned_owns : (s : Store) (n : ℕ) → Owned s n → owns s n ≡ true
unfolding owns
owned_owns s n o = rw (lt-ltb _ _ o.archetype_in, lt-ltb _ _ o.row_in, eq-eqb _ _ o.held)

-- a row that is the last, or whose last row's number has that row as its place
pub moving_good : (s : Store) (a r : ℕ) → (is_last s a r ≡ false → Moving s a) → moved_damaged s a r ≡ false
unfolding moved_damaged
moving_good s a r m = by (is_last s a r) refl
  where
    by : (b : Bool) → is_last s a r ≡ b → moved_damaged s a r ≡ false
    by true e = rw e
    by false e = let k = m e in rw (e, lt-leb _ _ k.below, eq-eqb _ _ k.archetype_is, eq-eqb _ _ k.row_is)
