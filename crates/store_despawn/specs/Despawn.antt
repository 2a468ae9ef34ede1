-- Despawn: the entity's row leaves, the number that falls into the hole learns its place, and the entity's number is freed.
use Prim.{Unit, tt}
use Rattle.std.specs.Prelude.{ℕ, false, not, List, [], ◌∷◌, eqb}
use Rattle.refusal.specs.Table.{Rule, ◌when◌, Answer, granted, ◌or_else◌}
use Rattle.handle.specs.OnBits.{on_bits}
use Rattle.borrow_word.specs.Slice.{any_held}
use Rattle.id_tables.specs.Head.{flushed}
use Rattle.id_tables.specs.Ids.{live}
use Rattle.ids.specs.Free.{freed_ids}
use Rattle.store_tables.specs.Store.{Store, with_ids, entry}
use Rattle.store_tables.specs.Rows.{archetype_of, row_of, owns, moved_damaged, vacated}

-- past 12, 13, the head's 1, and 5
unfoldable pub despawn_rules : Store → ℕ → ℕ → List Rule
despawn_rules s generation n =
    3 when not (flushed s.ids.head)
    ∷ 2 when not (live s.ids generation n)
    ∷ 1 when not (owns s n)
    ∷ 8 when any_held s.words
    ∷ 1 when eqb s.ids.head.live 0
    ∷ 1 when moved_damaged s (archetype_of s n) (row_of s n)
    ∷ []

-- the store without number n's row
abbrev pub without_row : Store → ℕ → Store
without_row s n = vacated s (archetype_of s n) (row_of s n)

-- and without the entity
abbrev pub without_entity : Store → ℕ → ℕ → Store
without_entity s generation n = with_ids (without_row s n) (freed_ids (without_row s n).ids generation n)

abbrev pub ended : Store → ℕ → ℕ → Answer (Unit {0} × Store)
ended s generation n = granted (tt, without_entity s generation n)

unfoldable pub despawned : Store → ℕ → ℕ → Answer (Unit {0} × Store)
despawned s generation n = despawn_rules s generation n or_else ended s generation n

unfoldable pub despawning : Store → ℕ → Answer (Unit {0} × Store)
despawning s bits = on_bits (entry s false) bits (despawned s)
