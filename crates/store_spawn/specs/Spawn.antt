-- Spawn: the next number takes the first unused row of an archetype, with the bytes of all its components in column order.
use Prim.{tt}
use Rattle.std.specs.Prelude.{ℕ, ◌≡◌, Bool, cond, not, ◌&&◌, List, [], ◌∷◌, ◌++◌, ltb, leb}
use Rattle.refusal.specs.Table.{Rule, ◌when◌, Answer, granted, ◌or_else◌, passing}
use Rattle.handle.specs.Bits.{place_of}
use Rattle.borrow_word.specs.Slice.{any_held}
use Rattle.id_tables.specs.Head.{flushed}
use Rattle.id_tables.specs.Ids.{Ids, room, damaged}
use Rattle.ids.specs.Alloc.{has_pending, last_pending, allocated_last, allocated_new}
use Rattle.decl.specs.Decl.{archetypes, rows_of}
use Rattle.row_step.specs.Tables.{count_of}
use Rattle.store_tables.specs.Store.{Store, with_ids, entry}
use Rattle.store_tables.specs.Rows.{seated}
use Rattle.store_tables.specs.Run.{run_wrong}

-- the next number, and the ids with it at the first unused row
abbrev pub next_number : Ids → ℕ
next_number s = cond (has_pending s) (last_pending s) s.head.used

abbrev pub next_ids : Store → ℕ → ℕ × Ids
next_ids s a =
    cond (has_pending s.ids) (allocated_last s.ids (place_of a (count_of s.rows a)))
    (allocated_new s.ids (place_of a (count_of s.rows a)))

-- 1 for the pending entry that is taken
abbrev pub next_damaged : Ids → Bool
next_damaged s = has_pending s && damaged s (last_pending s)

-- past 12, 13 and the head's 1
unfoldable pub spawn_rules : Store → ℕ → List Rule
spawn_rules s a =
    3 when not (flushed s.ids.head)
    ∷ 6 when leb (archetypes s.decl) a
    ∷ 8 when any_held s.words
    ∷ 4 when ltb (room s.ids) 1
    ∷ 4 when leb (rows_of s.decl a) (count_of s.rows a)
    ∷ 1 when next_damaged s.ids
    ∷ []

-- none of them applies
abbrev pub Spawnable : Store → ℕ → Type 0
Spawnable s a = granted tt ≡ passing (spawn_rules s a)

abbrev pub with_entity : Store → ℕ → List ℕ → Store
with_entity s a run = with_ids (seated s a (next_number s.ids) run) (next_ids s a).1

abbrev pub spawned : Store → ℕ → List ℕ → Answer (ℕ × Store)
spawned s a run = granted ((next_ids s a).0, with_entity s a run)

unfoldable pub spawning : Store → ℕ → List ℕ → Answer (ℕ × Store)
spawning s a run = entry s (run_wrong s.decl a run) ++ spawn_rules s a or_else spawned s a run
