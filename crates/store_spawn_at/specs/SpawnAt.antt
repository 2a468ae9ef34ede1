-- Spawn at: a chosen number takes the first unused row of an archetype, with the bytes of all its components in column order. A live number's old row leaves first.
use Prim.{Unit, tt}
use Rattle.std.specs.Prelude.{ℕ, Bool, cond, not, ◌&&◌, List, [], ◌∷◌, ltb, leb, eqb}
use Rattle.refusal.specs.Table.{Rule, ◌when◌, Answer, granted, ◌or_else◌}
use Rattle.handle.specs.Bits.{MAX, place_of}
use Rattle.handle.specs.OnBits.{on_bits}
use Rattle.borrow_word.specs.Slice.{any_held}
use Rattle.id_tables.specs.Head.{flushed}
use Rattle.id_tables.specs.Ids.{Ids, capacity, index_at}
use Rattle.ids.specs.AllocAt.{is_pending, chosen_damaged, allocated_at}
use Rattle.decl.specs.Decl.{archetypes, rows_of}
use Rattle.row_step.specs.Tables.{count_of}
use Rattle.store_tables.specs.Store.{Store, with_ids, entry}
use Rattle.store_tables.specs.Rows.{archetype_of, row_of, owns, moved_damaged, vacated, seated}
use Rattle.store_tables.specs.Run.{run_wrong}

-- a chosen number below used, not pending, index not MAX
unfoldable pub chosen_live : Ids → ℕ → Bool
chosen_live s n = ltb n s.head.used && (not (is_pending s n) && not (eqb (index_at s n) MAX))

-- the store without a live number's old row
unfoldable pub without_old : Store → ℕ → Store
without_old s n = cond (chosen_live s.ids n) (vacated s (archetype_of s n) (row_of s n)) s

-- past 12, 13, the head's 1, and 5. The old row's room counts for 4.
unfoldable pub spawn_at_rules : Store → ℕ → ℕ → List Rule
spawn_at_rules s a n =
    3 when not (flushed s.ids.head)
    ∷ 6 when leb (archetypes s.decl) a
    ∷ 1 when (chosen_live s.ids n && not (owns s n))
    ∷ 8 when any_held s.words
    ∷ 4 when leb (capacity s.ids) n
    ∷ 4 when leb (rows_of s.decl a) (count_of (without_old s n).rows a)
    ∷ 1 when chosen_damaged s.ids n
    ∷ 1 when (chosen_live s.ids n && moved_damaged s (archetype_of s n) (row_of s n))
    ∷ []

-- the number in the first unused row of archetype a, which the id layer has as its place
abbrev pub with_chosen : Store → ℕ → List ℕ → ℕ → ℕ → Store
with_chosen s a run generation n = with_ids (seated s a n run) (allocated_at s.ids (place_of a (count_of s.rows a)) generation n).1

abbrev pub row_taken : Store → ℕ → List ℕ → ℕ → ℕ → Answer (Unit {0} × Store)
row_taken s a run generation n = granted (tt, with_chosen s a run generation n)

unfoldable pub spawned_at : Store → ℕ → List ℕ → ℕ → ℕ → Answer (Unit {0} × Store)
spawned_at s a run generation n = spawn_at_rules s a n or_else row_taken (without_old s n) a run generation n

unfoldable pub spawning_at : Store → ℕ → ℕ → List ℕ → Answer (Unit {0} × Store)
spawning_at s bits a run = on_bits (entry s (run_wrong s.decl a run)) bits (spawned_at s a run)
