-- What a read answers, case by case, and when a write, a borrow and a release are granted, for callers that do not open the rules.
-- Assumes nothing.
use Prim.{Unit, tt}
use Prim.Native.Nat.{ℕ, ◌<◌}
use mathlib.Core.Path.{◌≡◌, refl, sym}
use mathlib.Core.Bool.{Bool, true, false, not}
use mathlib.Core.List.{List, [], ◌∷◌}
use lib.Dec.{eqb}
use lib.ListN.{length, get_or, set}
use borrow.Author.Tests.{eqb-true, not-false}
use Rattle.refusal.specs.Table.{◌when◌, Answer, granted, refused, ◌or_else◌, passing}
use Rattle.refusal.specs.Laws.{not_refused, passed_all, none_holds, value_of_lem}
use Rattle.handle.specs.Bits.{generation_in, number_in}
use Rattle.handle.specs.OnBits.{on_past, on_granted}
use Rattle.borrow_word.specs.Word.{is_unique}
use Rattle.id_tables.specs.Ids.{live}
use Rattle.id_tables.specs.Lookup.{reserved_new}
use Rattle.decl.specs.Decl.{types_of}
use Rattle.decl.specs.Lookup.{column_of}
use Rattle.cells.specs.Cell.{put}
use Rattle.row_step.specs.Tables.{tables_of}
use Rattle.column_entry.specs.Entry.{wrong_size}
use Rattle.store_tables.specs.Store.{Store, with_rows, with_words, entry}
use Rattle.store_tables.specs.Rows.{archetype_of, row_of, owns}
use Rattle.store_tables.specs.Kept.{Entered}
use Rattle.store_tables.proofs.Entering.{entered, entered_right}
use Rattle.store_reads.specs.declared.component.Cell.{Cell}
use Rattle.store_reads.specs.Component.{◌and_then◌, place_rules, column_cell, component_at}
use Rattle.store_reads.specs.Read.{cell_read, read_at, reading}
use Rattle.store_reads.specs.Write.{cell_written, write_at, writing}
use Rattle.store_reads.specs.Words.{word_asked, word_stored, holding}
use Rattle.store_reads.proofs.Locating.{Held, component_parts}
use Rattle.store_reads.proofs.Holding.{asked_in}

-- the component of a handle
module _ (s : Store) (t g n : ℕ) where
  -- neither live nor a reserved new number
  pub component_absent : live s.ids g n ≡ false → reserved_new s.ids.head g n ≡ false → component_at s t g n ≡ refused 2
  unfolding component_at place_rules ◌or_else◌
  component_absent l r = rw (l, r)

  -- live, in its own place
  pub component_live : live s.ids g n ≡ true → owns s n ≡ true
      → component_at s t g n ≡ column_cell s.decl (archetype_of s n) (row_of s n) (column_of (types_of s.decl (archetype_of s n)) t)
  unfolding component_at place_rules ◌or_else◌
  component_live l o = rw (l, o)

  pub read_is : read_at s t g n ≡ (component_at s t g n and_then cell_read s.words)
  unfolding read_at
  read_is = refl

-- past the first tests, read refuses 5 for a zero generation, and then says what it says of the handle
pub reading_past : (s : Store) (bits t : ℕ) → granted tt ≡ passing (entry s false)
    → reading s bits t ≡ (5 when eqb (generation_in bits) 0 ∷ [] or_else read_at s t (generation_in bits) (number_in bits))
unfolding reading
reading_past s bits t e = on_past (entry s false) bits (read_at s t) e

-- the word of a cell that is read
module _ (words : List ℕ) (c : Cell) where
  pub cell_taken : is_unique (get_or words c.word 0) ≡ true → cell_read words c ≡ refused 7
  unfolding cell_read ◌or_else◌
  cell_taken e = rw e

  pub cell_open : is_unique (get_or words c.word 0) ≡ false → cell_read words c ≡ granted (c.start, c.size)
  unfolding cell_read ◌or_else◌
  cell_open e = rw e

-- what a granted write was, and what it leaves
pub record Wrote (s : Store) (bits t : ℕ) (value : List ℕ) (x : Unit {0} × Store) : Type 0 where
  pub enters : Entered s
  pub nonzero : generation_in bits ≡ 0 → ⊥
  pub right : wrong_size s.decl.types s.decl.sizes t (length value) ≡ false
  pub cell : Cell
  pub held : Held s t (generation_in bits) (number_in bits) cell
  pub word_free : get_or s.words cell.word 0 ≡ 0
  pub leaves : x ≡ (tt, with_rows s (tables_of s.rows.numbers s.rows.counts (put s.rows.bytes cell.start value)))

module _ (s : Store) (bits t : ℕ) (value : List ℕ) where
  abbrev short : Bool
  short = wrong_size s.decl.types s.decl.sizes t (length value)

  by_component : {x : Unit {0} × Store} (k : Answer Cell) → component_at s t (generation_in bits) (number_in bits) ≡ k
      → Entered s → (generation_in bits ≡ 0 → ⊥) → short ≡ false → granted x ≡ (k and_then cell_written s value) → Wrote s bits t value x
  unfolding cell_written
  by_component {x} (granted c) e h nz r w =
      let p = none_holds (8 when not (eqb (get_or s.words c.word 0) 0) ∷ []) (passed_all (8 when not (eqb (get_or s.words c.word 0) 0) ∷ []) _ w).0 in
      record {
        enters = h;
        nonzero = nz;
        right = r;
        cell = c;
        held = component_parts s t (generation_in bits) (number_in bits) c (sym e);
        word_free = eqb-true _ _ (not-false _ p.0);
        leaves = value_of_lem (8 when not (eqb (get_or s.words c.word 0) 0) ∷ []) _ w;
      }
  by_component (refused m) e h nz r w = absurd (not_refused w)

  pub writing_parts : {x : Unit {0} × Store} → granted x ≡ writing s bits t value → Wrote s bits t value x
  unfolding writing write_at
  writing_parts e =
      let p = on_granted (entry s short) bits (write_at s t value) e in
      by_component (component_at s t (generation_in bits) (number_in bits)) refl (entered s short p.0) p.1 (entered_right s short p.0) p.2

-- what a granted borrow or release was, and what it leaves: one word
pub record KeptButOne (s : Store) (x : Unit {0} × Store) : Type 0 where
  pub at : ℕ
  pub within : at < length s.words
  pub word : ℕ
  pub leaves : x ≡ (tt, with_words s (set s.words at word))

module _ (rule : ℕ → Answer ℕ) (s : Store) (a t : ℕ) where
  by_rule : {x : Unit {0} × Store} (p : ℕ) → p < length s.words → (k : Answer ℕ) → granted x ≡ word_stored s p k → KeptButOne s x
  by_rule p h (granted w) e = record { at = p; within = h; word = w; leaves = cc }
  by_rule p h (refused m) e = absurd (not_refused e)

  by_asked : {x : Unit {0} × Store} (k : Answer ℕ) → word_asked s a t ≡ k → granted x ≡ (k and_then (λ at. word_stored s at (rule (get_or s.words at 0)))) → KeptButOne s x
  by_asked (granted p) e h = by_rule p (asked_in s a t p (sym e)) (rule (get_or s.words p 0)) h
  by_asked (refused m) e h = absurd (not_refused h)

  pub holding_parts : {x : Unit {0} × Store} → granted x ≡ holding rule s a t → KeptButOne s x
  unfolding holding
  holding_parts e = by_asked (word_asked s a t) refl e
