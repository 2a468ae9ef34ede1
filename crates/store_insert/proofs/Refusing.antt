-- What insert refuses where the first tests pass, the entity's place is its own and the number that is moved is whole: its own lines, and no 1.
-- Assumes nothing.
use Prim.{tt}
use Prim.Native.Nat.{ℕ}
use mathlib.Core.Path.{◌≡◌, refl, sym, ◌∙◌}
use mathlib.Core.Bool.{Bool, true, false, not, ◌&&◌}
use mathlib.Core.List.{List, [], ◌∷◌}
use lib.Dec.{eqb}
use lib.ListN.{length}
use Rattle.std.specs.Prelude.{Option, Some, None}
use Rattle.refusal.specs.Table.{◌when◌, ◌or_else◌, ◌otherwise◌}
use Rattle.refusal.specs.Laws.{parts}
use Rattle.handle.specs.Bits.{generation_in, number_in}
use Rattle.borrow_word.specs.Slice.{any_held}
use Rattle.id_tables.specs.Head.{flushed}
use Rattle.id_tables.specs.Ids.{live}
use Rattle.decl.specs.Decl.{types_of}
use Rattle.decl.specs.Lookup.{column_of}
use Rattle.column_entry.specs.Entry.{wrong_size}
use Rattle.decl.specs.Places.{cell_start}
use Rattle.cells.specs.Cell.{put}
use Rattle.row_step.specs.Tables.{tables_of}
use Rattle.store_tables.specs.Store.{Store, with_rows}
use Rattle.store_tables.specs.Rows.{archetype_of, row_of, owns, moved_damaged}
use Rattle.store_tables.specs.Kept.{Entered}
use Rattle.store_tables.specs.Held.{is_missing}
use Rattle.store_tables.proofs.Passing.{bits_lines}
use Rattle.store_tables.proofs.Entities.{entity_lines}
use Rattle.store_moves.specs.Moves.{run_with}
use Rattle.store_moves.specs.Lines.{is_none, is_full, grown_into}
use Rattle.store_moves.proofs.Refusing.{moved_there, into_lines}
use Rattle.store_insert.specs.Insert.{overwritten, inserted_at, inserted, inserting}

-- the store that an insert leaves
abbrev pub inserted_store : Store → ℕ → ℕ → List ℕ → Option ℕ → Store
inserted_store s n t value (Some j) = overwritten s n j value
inserted_store s n t value None = moved_there s n (grown_into s n t) (run_with s.decl s.rows (archetype_of s n) (row_of s n) t value)

-- a component that is overwritten
pub over_is : (s : Store) (n j : ℕ) (value : List ℕ)
    → overwritten s n j value ≡ with_rows s (tables_of s.rows.numbers s.rows.counts (put s.rows.bytes (cell_start s.decl (archetype_of s n) j (row_of s n)) value))
unfolding overwritten
over_is s n j value = refl

at_lines : (s : Store) (n t : ℕ) (value : List ℕ) (c : Option ℕ) → moved_damaged s (archetype_of s n) (row_of s n) ≡ false
    → inserted_at s n t value c
    ≡ (14 when (is_missing c && is_none (grown_into s n t)) ∷ 8 when any_held s.words ∷ 4 when (is_missing c && is_full s (grown_into s n t)) ∷ [] otherwise (tt, inserted_store s n t value c))
unfolding inserted_at ◌or_else◌
at_lines s n t value (Some j) w = held (any_held s.words) _
  where
    held : {A : Type 0} (b : Bool) (v : A) → (8 when b ∷ [] otherwise v) ≡ (8 when b ∷ 4 when false ∷ [] otherwise v)
    held true v = refl
    held false v = refl
at_lines s n t value None w = into_lines s n (grown_into s n t) _ w

pub inserting_lines : (s : Store) (bits t : ℕ) (value : List ℕ) → Entered s
    → (live s.ids (generation_in bits) (number_in bits) ≡ true → (owns s (number_in bits) ≡ true) × (moved_damaged s (archetype_of s (number_in bits)) (row_of s (number_in bits)) ≡ false))
    → inserting s bits t value
    ≡ (13 when wrong_size s.decl.types s.decl.sizes t (length value)
    ∷ 5 when eqb (generation_in bits) 0
    ∷ 3 when not (flushed s.ids.head)
    ∷ 2 when not (live s.ids (generation_in bits) (number_in bits))
    ∷ 14 when (is_missing (column_of (types_of s.decl (archetype_of s (number_in bits))) t) && is_none (grown_into s (number_in bits) t))
    ∷ 8 when any_held s.words
    ∷ 4 when (is_missing (column_of (types_of s.decl (archetype_of s (number_in bits))) t) && is_full s (grown_into s (number_in bits) t))
    ∷ []
    otherwise (tt, inserted_store s (number_in bits) t value (column_of (types_of s.decl (archetype_of s (number_in bits))) t)))
unfolding inserting inserted
inserting_lines s bits t value e w =
    let n = number_in bits in
    let c = column_of (types_of s.decl (archetype_of s n)) t in
    let short = wrong_size s.decl.types s.decl.sizes t (length value) in
    bits_lines s e short bits (inserted s t value)
    ∙ (entity_lines s (generation_in bits) n short (eqb (generation_in bits) 0) (inserted_at s n t value c) _ (λ l. ((w l).0, at_lines s n t value c (w l).1))
    ∙ sym (parts (13 when short ∷ 5 when eqb (generation_in bits) 0 ∷ 3 when not (flushed s.ids.head) ∷ 2 when not (live s.ids (generation_in bits) n) ∷ [])
    (14 when (is_missing c && is_none (grown_into s n t)) ∷ 8 when any_held s.words ∷ 4 when (is_missing c && is_full s (grown_into s n t)) ∷ []) _))
