-- What read, write, borrow and release refuse where the first tests pass and a live handle's place is its own: their own lines, and no 1.
-- Assumes nothing.
use Prim.{Unit, tt}
use Prim.Native.Nat.{ℕ, ◌+◌}
use native.Mathlib.Omega.{arith}
use mathlib.Core.Path.{◌≡◌, refl, ap, ◌∙◌}
use mathlib.Core.Bool.{Bool, true, false, not, ◌&&◌, ◌||◌}
use mathlib.Core.List.{List, [], ◌∷◌}
use lib.Dec.{leb, eqb}
use lib.ListN.{length, get_or}
use Rattle.refusal.specs.Table.{◌when◌, Answer, refused, ◌or_else◌, ◌otherwise◌}
use Rattle.handle.specs.Bits.{generation_in, number_in}
use Rattle.borrow_word.specs.Word.{is_unique}
use Rattle.id_tables.specs.Ids.{live}
use Rattle.id_tables.specs.Lookup.{reserved_new}
use Rattle.decl.specs.Decl.{Decl, archetypes, first_column, types_of}
use Rattle.decl.specs.Lookup.{column_of}
use Rattle.std.specs.Prelude.{Option, Some, None}
use Rattle.cells.specs.Cell.{put}
use Rattle.row_step.specs.Tables.{tables_of}
use Rattle.column_entry.specs.Entry.{wrong_size}
use Rattle.store_tables.specs.Store.{Store, with_rows}
use Rattle.store_tables.specs.Rows.{archetype_of, row_of, owns}
use Rattle.store_tables.specs.Kept.{Entered}
use Rattle.store_tables.specs.Held.{is_missing}
use Rattle.store_tables.proofs.Passing.{entry_line, bits_lines}
use Rattle.store_reads.specs.Lines.{place_in, word_in, part_in}
use Rattle.store_reads.specs.declared.component.Cell.{Cell}
use Rattle.store_reads.specs.Component.{◌and_then◌, place_rules, column_cell, component_at}
use Rattle.store_reads.specs.Read.{cell_read, read_at, reading}
use Rattle.store_reads.specs.Write.{cell_written, write_at, writing}
use Rattle.store_reads.specs.Words.{column_word, word_named, word_asked, word_stored, holding}

differ : {A : Type 0} → false ≡ true → A
differ q = absurd (let y : ◌≡◌ {A = ℕ} 0 1 = cc in omega arith)

-- the component, by its own lines, and what follows it
at_column : {A : Type 0} (d : Decl) (a r : ℕ) (l w z : Bool) (c : Option ℕ) (f : Cell → Answer A) → (l ≡ true → w ≡ true)
    → ((2 when not (l || z) ∷ 1 when (l && not w) ∷ 15 when not l ∷ [] or_else column_cell d a r c) and_then f)
    ≡ (2 when not (l || z) ∷ 15 when (not l || is_missing c) ∷ [] or_else (column_cell d a r c and_then f))
unfolding ◌or_else◌
at_column d a r true true z (Some j) f h = refl
at_column d a r true true z None f h = refl
at_column d a r true false z c f h = differ (h refl)
at_column d a r false w true c f h = refl
at_column d a r false w false c f h = refl

missing : {A : Type 0} (x b y l u : Bool) (v : A)
    → (13 when x ∷ 5 when b ∷ [] or_else (2 when y ∷ 15 when (not l || true) ∷ [] or_else refused 15)) ≡ (13 when x ∷ 5 when b ∷ 2 when y ∷ 15 when (not l || true) ∷ 8 when u ∷ [] otherwise v)
unfolding ◌or_else◌
missing true b y l u v = refl
missing false true y l u v = refl
missing false false true l u v = refl
missing false false false true u v = refl
missing false false false false u v = refl

read_lines : (d : Decl) (words : List ℕ) (a r : ℕ) (b y z : Bool) (c : Option ℕ)
    → (13 when false ∷ 5 when b ∷ [] or_else (2 when y ∷ 15 when (z || is_missing c) ∷ [] or_else (column_cell d a r c and_then cell_read words)))
    ≡ (5 when b ∷ 2 when y ∷ 15 when (z || is_missing c) ∷ 7 when is_unique (word_in d words a c) ∷ [] otherwise part_in d a r c)
unfolding ◌or_else◌ cell_read
read_lines d words a r true y z c = refl
read_lines d words a r false true z c = refl
read_lines d words a r false false true c = refl
read_lines d words a r false false false (Some j) = refl
read_lines d words a r false false false None = refl

write_lines : {A : Type 0} (x b y z u : Bool) (v : A)
    → (13 when x ∷ 5 when b ∷ [] or_else (2 when y ∷ 15 when z ∷ [] or_else (8 when u ∷ [] otherwise v)))
    ≡ (13 when x ∷ 5 when b ∷ 2 when y ∷ 15 when z ∷ 8 when u ∷ [] otherwise v)
unfolding ◌or_else◌
write_lines true b y z u v = refl
write_lines false true y z u v = refl
write_lines false false true z u v = refl
write_lines false false false true u v = refl
write_lines false false false false u v = refl

module _ (s : Store) (e : Entered s) (bits t : ℕ) (own : live s.ids (generation_in bits) (number_in bits) ≡ true → owns s (number_in bits) ≡ true) where
  abbrev g : ℕ
  g = generation_in bits

  abbrev n : ℕ
  n = number_in bits

  abbrev col : Option ℕ
  col = column_of (types_of s.decl (archetype_of s n)) t

  pub reading_lines : reading s bits t
      ≡ (5 when eqb (generation_in bits) 0
      ∷ 2 when not (live s.ids (generation_in bits) (number_in bits) || reserved_new s.ids.head (generation_in bits) (number_in bits))
      ∷ 15 when (not (live s.ids (generation_in bits) (number_in bits)) || is_missing (column_of (types_of s.decl (archetype_of s (number_in bits))) t))
      ∷ 7 when is_unique (word_in s.decl s.words (archetype_of s (number_in bits)) (column_of (types_of s.decl (archetype_of s (number_in bits))) t))
      ∷ []
      otherwise part_in s.decl (archetype_of s (number_in bits)) (row_of s (number_in bits)) (column_of (types_of s.decl (archetype_of s (number_in bits))) t))
  unfolding reading read_at component_at place_rules
  reading_lines =
      bits_lines s e false bits (read_at s t)
      ∙ ap (λ (a : Answer (ℕ × ℕ)). 13 when false ∷ 5 when eqb g 0 ∷ [] or_else a)
      (at_column s.decl (archetype_of s n) (row_of s n) (live s.ids g n) (owns s n) (reserved_new s.ids.head g n) col (cell_read s.words) own)
      ∙ read_lines s.decl s.words (archetype_of s n) (row_of s n) (eqb g 0) (not (live s.ids g n || reserved_new s.ids.head g n)) (not (live s.ids g n)) col

  by_column : (value : List ℕ) (c : Option ℕ) → (13 when wrong_size s.decl.types s.decl.sizes t (length value) ∷ 5 when eqb g 0 ∷ [] or_else
      (2 when not (live s.ids g n || reserved_new s.ids.head g n) ∷ 15 when (not (live s.ids g n) || is_missing c) ∷ [] or_else (column_cell s.decl (archetype_of s n) (row_of s n) c and_then cell_written s value)))
      ≡ (13 when wrong_size s.decl.types s.decl.sizes t (length value) ∷ 5 when eqb g 0
      ∷ 2 when not (live s.ids g n || reserved_new s.ids.head g n) ∷ 15 when (not (live s.ids g n) || is_missing c)
      ∷ 8 when not (eqb (word_in s.decl s.words (archetype_of s n) c) 0) ∷ []
      otherwise (tt, with_rows s (tables_of s.rows.numbers s.rows.counts (put s.rows.bytes (part_in s.decl (archetype_of s n) (row_of s n) c).0 value))))
  unfolding cell_written
  by_column value (Some j) =
      write_lines (wrong_size s.decl.types s.decl.sizes t (length value)) (eqb g 0) (not (live s.ids g n || reserved_new s.ids.head g n)) (not (live s.ids g n) || false) (not (eqb (get_or s.words (first_column s.decl (archetype_of s n) + j) 0) 0)) _
  by_column value None =
      missing (wrong_size s.decl.types s.decl.sizes t (length value)) (eqb g 0) (not (live s.ids g n || reserved_new s.ids.head g n)) (live s.ids g n) (not (eqb 0 0)) _

  pub writing_lines : (value : List ℕ) → writing s bits t value
      ≡ (13 when wrong_size s.decl.types s.decl.sizes t (length value)
      ∷ 5 when eqb (generation_in bits) 0
      ∷ 2 when not (live s.ids (generation_in bits) (number_in bits) || reserved_new s.ids.head (generation_in bits) (number_in bits))
      ∷ 15 when (not (live s.ids (generation_in bits) (number_in bits)) || is_missing (column_of (types_of s.decl (archetype_of s (number_in bits))) t))
      ∷ 8 when not (eqb (word_in s.decl s.words (archetype_of s (number_in bits)) (column_of (types_of s.decl (archetype_of s (number_in bits))) t)) 0)
      ∷ []
      otherwise (tt, with_rows s (tables_of s.rows.numbers s.rows.counts (put s.rows.bytes (part_in s.decl (archetype_of s (number_in bits)) (row_of s (number_in bits)) (column_of (types_of s.decl (archetype_of s (number_in bits))) t)).0 value))))
  unfolding writing write_at component_at place_rules
  writing_lines value =
      bits_lines s e (wrong_size s.decl.types s.decl.sizes t (length value)) bits (write_at s t value)
      ∙ ap (λ (a : Answer (Unit {0} × Store)). 13 when wrong_size s.decl.types s.decl.sizes t (length value) ∷ 5 when eqb g 0 ∷ [] or_else a)
      (at_column s.decl (archetype_of s n) (row_of s n) (live s.ids g n) (owns s n) (reserved_new s.ids.head g n) col (cell_written s value) own)
      ∙ by_column value col

-- borrow and release: 6, 15, then what the word's rule says
pub holding_lines : (rule : ℕ → Answer ℕ) (s : Store) (a t : ℕ) → Entered s
    → holding rule s a t
    ≡ (6 when leb (archetypes s.decl) a
    ∷ 15 when is_missing (column_of (types_of s.decl a) t)
    ∷ []
    or_else word_stored s (place_in s.decl a (column_of (types_of s.decl a) t)) (rule (word_in s.decl s.words a (column_of (types_of s.decl a) t))))
unfolding holding word_asked word_named ◌or_else◌
holding_lines rule s a t e =
    ap (λ (k : Answer ℕ). k and_then (λ at. word_stored s at (rule (get_or s.words at 0)))) (entry_line s e false (6 when leb (archetypes s.decl) a ∷ [] or_else column_word s.decl a (column_of (types_of s.decl a) t)))
    ∙ by (leb (archetypes s.decl) a) (column_of (types_of s.decl a) t)
  where
    by : (b : Bool) (c : Option ℕ)
        → ((13 when false ∷ [] or_else (6 when b ∷ [] or_else column_word s.decl a c)) and_then (λ at. word_stored s at (rule (get_or s.words at 0))))
        ≡ (6 when b ∷ 15 when is_missing c ∷ [] or_else word_stored s (place_in s.decl a c) (rule (word_in s.decl s.words a c)))
    by true c = refl
    by false (Some j) = refl
    by false None = refl
