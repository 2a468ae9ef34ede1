-- Free: the number of a live handle is pushed on pending, with its next generation and no place.
use Rattle.std.specs.Prelude.{ℕ, ◌+◌, ◌-◌, false, cond, not, [], ◌∷◌, eqb, set}
use Rattle.refusal.specs.Table.{Answer, ◌when◌, ◌otherwise◌}
use Rattle.handle.specs.Bits.{MAX}
use Rattle.handle.specs.OnBits.{on_bits}
use Rattle.handle.specs.declared.Place.{Place}
use Rattle.id_tables.specs.Head.{flushed, flushed_head}
use Rattle.id_tables.specs.Ids.{Ids, ids_of, entry, live, place_at}

-- Generation + 1, MAX becoming 1
abbrev pub next_generation : ℕ → ℕ
next_generation generation = cond (eqb generation MAX) 1 (generation + 1)

abbrev pub freed_ids : Ids → ℕ → ℕ → Ids
freed_ids s generation n =
    ids_of (flushed_head s.head.used (s.head.pending + 1) (s.head.live - 1))
    (set s.generations n (next_generation generation))
    (set s.archetypes n 0)
    (set s.indices n MAX)
    (set s.pending s.head.pending n)

unfoldable pub freed : Ids → ℕ → ℕ → Answer (Place × Ids)
freed s generation n =
    3 when not (flushed s.head)
    ∷ 2 when not (live s generation n)
    ∷ 1 when eqb s.head.live 0
    ∷ []
    otherwise (place_at s n, freed_ids s generation n)

unfoldable pub freeing : Ids → ℕ → Answer (Place × Ids)
freeing s bits = on_bits (entry s false) bits (freed s)
