-- An entity in a row of its own: what is tested of it.
use Rattle.std.specs.Prelude.{ℕ, not, List, [], ◌∷◌}
use Rattle.refusal.specs.Table.{Rule, ◌when◌}
use Rattle.id_tables.specs.Head.{flushed}
use Rattle.id_tables.specs.Ids.{live}
use Rattle.store_tables.specs.Store.{Store}
use Rattle.store_tables.specs.Rows.{owns}

-- of an entity whose row is to change or to leave, past 12, 13, the head's 1, and 5
unfoldable pub entity_rules : Store → ℕ → ℕ → List Rule
entity_rules s generation n =
    3 when not (flushed s.ids.head)
    ∷ 2 when not (live s.ids generation n)
    ∷ 1 when not (owns s n)
    ∷ []
