-- What remove refuses where the first tests pass, the entity's place is its own and the number that is moved is whole: its own lines, and no 1.
-- Assumes nothing.
use Prim.{tt}
use Prim.Native.Nat.{ℕ}
use mathlib.Core.Path.{◌≡◌, refl, sym, ◌∙◌}
use mathlib.Core.Bool.{true, false, not}
use mathlib.Core.List.{List, [], ◌∷◌}
use lib.Dec.{eqb}
use Rattle.std.specs.Prelude.{Option, Some, None}
use Rattle.refusal.specs.Table.{Rule, ◌when◌, Answer, ◌or_else◌, ◌otherwise◌}
use Rattle.refusal.specs.Laws.{parts}
use Rattle.handle.specs.Bits.{generation_in, number_in}
use Rattle.borrow_word.specs.Slice.{any_held}
use Rattle.id_tables.specs.Head.{flushed}
use Rattle.id_tables.specs.Ids.{live}
use Rattle.decl.specs.Decl.{types_of}
use Rattle.decl.specs.Lookup.{column_of}
use Rattle.store_tables.specs.Store.{Store}
use Rattle.store_tables.specs.Rows.{archetype_of, row_of, owns, moved_damaged}
use Rattle.store_tables.specs.Kept.{Entered}
use Rattle.store_tables.specs.Held.{is_missing}
use Rattle.store_tables.proofs.Passing.{bits_lines}
use Rattle.store_tables.proofs.Entities.{entity_lines}
use Rattle.store_moves.specs.Moves.{run_without}
use Rattle.store_moves.specs.Lines.{is_none, is_full, shrunk_into}
use Rattle.store_moves.proofs.Refusing.{moved_there, into_lines}
use Rattle.store_remove.specs.Remove.{removed_at, removed, removing}

-- the store that a remove leaves
abbrev pub removed_store : Store → ℕ → Option ℕ → Store
removed_store s n (Some j) = moved_there s n (shrunk_into s n (Some j)) (run_without s.decl s.rows (archetype_of s n) (row_of s n) j)
removed_store s n None = s

at_lines : (s : Store) (n : ℕ) (c : Option ℕ) → moved_damaged s (archetype_of s n) (row_of s n) ≡ false
    → removed_at s n c ≡ (15 when is_missing c ∷ 14 when is_none (shrunk_into s n c) ∷ 8 when any_held s.words ∷ 4 when is_full s (shrunk_into s n c) ∷ [] otherwise (tt, removed_store s n c))
unfolding removed_at ◌or_else◌
at_lines s n (Some j) w = into_lines s n (shrunk_into s n (Some j)) _ w
at_lines s n None w = refl

unshort : {A : Type 0} (rules : List Rule) (a : Answer A) → (13 when false ∷ rules or_else a) ≡ (rules or_else a)
unfolding ◌or_else◌
unshort rules a = refl

pub removing_lines : (s : Store) (bits t : ℕ) → Entered s
    → (live s.ids (generation_in bits) (number_in bits) ≡ true → (owns s (number_in bits) ≡ true) × (moved_damaged s (archetype_of s (number_in bits)) (row_of s (number_in bits)) ≡ false))
    → removing s bits t
    ≡ (5 when eqb (generation_in bits) 0
    ∷ 3 when not (flushed s.ids.head)
    ∷ 2 when not (live s.ids (generation_in bits) (number_in bits))
    ∷ 15 when is_missing (column_of (types_of s.decl (archetype_of s (number_in bits))) t)
    ∷ 14 when is_none (shrunk_into s (number_in bits) (column_of (types_of s.decl (archetype_of s (number_in bits))) t))
    ∷ 8 when any_held s.words
    ∷ 4 when is_full s (shrunk_into s (number_in bits) (column_of (types_of s.decl (archetype_of s (number_in bits))) t))
    ∷ []
    otherwise (tt, removed_store s (number_in bits) (column_of (types_of s.decl (archetype_of s (number_in bits))) t)))
unfolding removing removed
removing_lines s bits t e w =
    let n = number_in bits in
    let c = column_of (types_of s.decl (archetype_of s n)) t in
    bits_lines s e false bits (removed s t)
    ∙ (entity_lines s (generation_in bits) n false (eqb (generation_in bits) 0) (removed_at s n c) _ (λ l. ((w l).0, at_lines s n c (w l).1))
    ∙ (sym (parts (13 when false ∷ 5 when eqb (generation_in bits) 0 ∷ 3 when not (flushed s.ids.head) ∷ 2 when not (live s.ids (generation_in bits) n) ∷ [])
    (15 when is_missing c ∷ 14 when is_none (shrunk_into s n c) ∷ 8 when any_held s.words ∷ 4 when is_full s (shrunk_into s n c) ∷ []) _)
    ∙ unshort _ _))
