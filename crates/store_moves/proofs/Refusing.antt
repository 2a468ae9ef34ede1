-- What a move refuses where the number that is moved is whole: its own lines, and no 1.
-- Assumes nothing.
use Prim.{tt}
use Prim.Native.Nat.{ℕ}
use mathlib.Core.Path.{◌≡◌, refl}
use mathlib.Core.Bool.{Bool, true, false}
use mathlib.Core.List.{List, [], ◌∷◌}
use mathlib.Core.Option.{Option, none, some}
use lib.Dec.{leb}
use Rattle.refusal.specs.Table.{◌when◌, ◌or_else◌, ◌otherwise◌}
use Rattle.borrow_word.specs.Slice.{any_held}
use Rattle.decl.specs.Decl.{rows_of}
use Rattle.row_step.specs.Tables.{count_of}
use Rattle.store_tables.specs.Store.{Store}
use Rattle.store_tables.specs.Rows.{archetype_of, row_of, moved_damaged}
use Rattle.store_moves.specs.Lines.{is_none, is_full}
use Rattle.store_moves.specs.Moves.{move_rules, moved_to, moved_into}

-- the store with the row there
abbrev pub moved_there : Store → ℕ → Option ℕ → List ℕ → Store
moved_there s n none run = s
moved_there s n (some b) run = moved_to s n b run

move_lines : {A : Type 0} (b c d : Bool) (v : A) → d ≡ false → (8 when b ∷ 4 when c ∷ 1 when d ∷ [] otherwise v) ≡ (14 when false ∷ 8 when b ∷ 4 when c ∷ [] otherwise v)
unfolding ◌or_else◌
move_lines true c d v z = refl
move_lines false true d v z = refl
move_lines false false d v z = rw z

pub into_lines : (s : Store) (n : ℕ) (o : Option ℕ) (run : List ℕ) → moved_damaged s (archetype_of s n) (row_of s n) ≡ false
    → moved_into s n o run ≡ (14 when is_none o ∷ 8 when any_held s.words ∷ 4 when is_full s o ∷ [] otherwise (tt, moved_there s n o run))
unfolding moved_into move_rules ◌or_else◌
into_lines s n none run w = refl
into_lines s n (some b) run w =
    move_lines (any_held s.words) (leb (rows_of s.decl b) (count_of s.rows b)) (moved_damaged s (archetype_of s n) (row_of s n)) (tt, moved_to s n b run) w
