-- What spawn at refuses where the first tests pass and the entries that it uses are whole: its own lines, and no 1.
-- Assumes nothing.
use Prim.Native.Nat.{ℕ}
use mathlib.Core.Path.{◌≡◌, refl, ap, ◌∙◌}
use mathlib.Core.Bool.{Bool, true, false, not, ◌&&◌}
use mathlib.Core.List.{List, [], ◌∷◌}
use lib.Dec.{leb, eqb}
use Rattle.refusal.specs.Table.{◌when◌, Answer, ◌or_else◌}
use Rattle.handle.specs.Bits.{generation_in, number_in}
use Rattle.borrow_word.specs.Slice.{any_held}
use Rattle.id_tables.specs.Head.{flushed}
use Rattle.id_tables.specs.Ids.{capacity}
use Rattle.ids.specs.AllocAt.{chosen_damaged}
use Rattle.decl.specs.Decl.{archetypes, rows_of}
use Rattle.row_step.specs.Tables.{count_of}
use Rattle.store_tables.specs.Store.{Store}
use Rattle.store_tables.specs.Rows.{archetype_of, row_of, owns, moved_damaged}
use Rattle.store_tables.specs.Run.{run_wrong}
use Rattle.store_tables.specs.Kept.{Entered}
use Rattle.store_tables.proofs.Passing.{bits_lines}
use Rattle.store_spawn_at.specs.SpawnAt.{chosen_live, without_old, spawn_at_rules, row_taken, spawned_at, spawning_at}

lines : {A : Type 0} (x z b c d e f g h i : Bool) (a : Answer A) → d ≡ false → h ≡ false → i ≡ false
    → (13 when x ∷ 5 when z ∷ [] or_else (3 when b ∷ 6 when c ∷ 1 when d ∷ 8 when e ∷ 4 when f ∷ 4 when g ∷ 1 when h ∷ 1 when i ∷ [] or_else a))
    ≡ (13 when x ∷ 5 when z ∷ 3 when b ∷ 6 when c ∷ 8 when e ∷ 4 when f ∷ 4 when g ∷ [] or_else a)
unfolding ◌or_else◌
lines true z b c d e f g h i a p q r = refl
lines false true b c d e f g h i a p q r = refl
lines false false true c d e f g h i a p q r = refl
lines false false false true d e f g h i a p q r = refl
lines false false false false d true f g h i a p q r = rw p
lines false false false false d false true g h i a p q r = rw p
lines false false false false d false false true h i a p q r = rw p
lines false false false false d false false false h i a p q r = rw (p, q, r)

-- of a chosen number that lives: its place is its own, and the number that is moved is whole
pub record Whole (s : Store) (n : ℕ) : Type 0 where
  pub own : chosen_live s.ids n ≡ true → owns s n ≡ true
  pub chosen_good : chosen_damaged s.ids n ≡ false
  pub moved_good : chosen_live s.ids n ≡ true → moved_damaged s (archetype_of s n) (row_of s n) ≡ false

only_if : (b c : Bool) → (b ≡ true → c ≡ false) → (b && c) ≡ false
only_if true c h = h refl
only_if false c h = refl

pub spawning_at_lines : (s : Store) (bits a : ℕ) (run : List ℕ) → Entered s → Whole s (number_in bits)
    → spawning_at s bits a run
    ≡ (13 when run_wrong s.decl a run
    ∷ 5 when eqb (generation_in bits) 0
    ∷ 3 when not (flushed s.ids.head)
    ∷ 6 when leb (archetypes s.decl) a
    ∷ 8 when any_held s.words
    ∷ 4 when leb (capacity s.ids) (number_in bits)
    ∷ 4 when leb (rows_of s.decl a) (count_of (without_old s (number_in bits)).rows a)
    ∷ []
    or_else row_taken (without_old s (number_in bits)) a run (generation_in bits) (number_in bits))
unfolding spawning_at spawned_at spawn_at_rules
spawning_at_lines s bits a run e w =
    let n = number_in bits in
    bits_lines s e (run_wrong s.decl a run) bits (spawned_at s a run)
    ∙ lines (run_wrong s.decl a run) (eqb (generation_in bits) 0) (not (flushed s.ids.head)) (leb (archetypes s.decl) a) (chosen_live s.ids n && not (owns s n)) (any_held s.words) (leb (capacity s.ids) n) (leb (rows_of s.decl a) (count_of (without_old s n).rows a)) (chosen_damaged s.ids n) (chosen_live s.ids n && moved_damaged s (archetype_of s n) (row_of s n)) _
    (only_if (chosen_live s.ids n) (not (owns s n)) (λ l. ap not (w.own l))) w.chosen_good (only_if (chosen_live s.ids n) (moved_damaged s (archetype_of s n) (row_of s n)) w.moved_good)
