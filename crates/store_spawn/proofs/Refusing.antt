-- What spawn refuses where the first tests pass and the entry that it uses is whole: its own lines, and no 1.
-- Assumes nothing.
use Prim.Native.Nat.{ℕ}
use mathlib.Core.Path.{◌≡◌, refl, ◌∙◌}
use mathlib.Core.Bool.{Bool, true, false, not}
use mathlib.Core.List.{List, [], ◌∷◌}
use lib.Dec.{ltb, leb}
use Rattle.refusal.specs.Table.{◌when◌, Answer, ◌or_else◌}
use Rattle.refusal.specs.Laws.{parts}
use Rattle.borrow_word.specs.Slice.{any_held}
use Rattle.id_tables.specs.Head.{flushed}
use Rattle.id_tables.specs.Ids.{room}
use Rattle.decl.specs.Decl.{archetypes, rows_of}
use Rattle.row_step.specs.Tables.{count_of}
use Rattle.store_tables.specs.Store.{Store, entry}
use Rattle.store_tables.specs.Run.{run_wrong}
use Rattle.store_tables.specs.Kept.{Entered}
use Rattle.store_tables.proofs.Passing.{entry_line}
use Rattle.store_spawn.specs.Spawn.{next_damaged, spawn_rules, spawned, spawning}

lines : {A : Type 0} (b c d e f g h : Bool) (a : Answer A) → h ≡ false
    → (13 when b ∷ [] or_else (3 when c ∷ 6 when d ∷ 8 when e ∷ 4 when f ∷ 4 when g ∷ 1 when h ∷ [] or_else a))
    ≡ (13 when b ∷ 3 when c ∷ 6 when d ∷ 8 when e ∷ 4 when f ∷ 4 when g ∷ [] or_else a)
unfolding ◌or_else◌
lines true c d e f g h a z = refl
lines false true d e f g h a z = refl
lines false false true e f g h a z = refl
lines false false false true f g h a z = refl
lines false false false false true g h a z = refl
lines false false false false false true h a z = refl
lines false false false false false false h a z = rw z

pub spawning_lines : (s : Store) (a : ℕ) (run : List ℕ) → Entered s → next_damaged s.ids ≡ false
    → spawning s a run
    ≡ (13 when run_wrong s.decl a run
    ∷ 3 when not (flushed s.ids.head)
    ∷ 6 when leb (archetypes s.decl) a
    ∷ 8 when any_held s.words
    ∷ 4 when ltb (room s.ids) 1
    ∷ 4 when leb (rows_of s.decl a) (count_of s.rows a)
    ∷ []
    or_else spawned s a run)
unfolding spawning spawn_rules
spawning_lines s a run e w =
    parts (entry s (run_wrong s.decl a run)) (spawn_rules s a) (spawned s a run)
    ∙ entry_line s e (run_wrong s.decl a run) _
    ∙ lines (run_wrong s.decl a run) (not (flushed s.ids.head)) (leb (archetypes s.decl) a) (any_held s.words) (ltb (room s.ids) 1) (leb (rows_of s.decl a) (count_of s.rows a)) (next_damaged s.ids) _ w
