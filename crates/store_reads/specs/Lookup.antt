-- The lookups of the id layer over the whole store.
use Rattle.std.specs.Prelude.{ℕ, Bool, false, cond}
use Rattle.refusal.specs.Table.{Answer, ◌or_else◌, ◌otherwise◌}
use Rattle.handle.specs.Bits.{MAX, place_of}
use Rattle.handle.specs.OnBits.{on_bits}
use Rattle.handle.specs.declared.Place.{Place}
use Rattle.id_tables.specs.Ids.{live, place_at}
use Rattle.id_tables.specs.Lookup as ids
use Rattle.store_tables.specs.Store.{Store, entry}
use Rattle.store_reads.specs.Component.{place_rules}

-- Get: a live number's place, which must be its own; for a reserved new number (0, MAX)
unfoldable pub place_found : Store → ℕ → ℕ → Answer Place
place_found s generation n =
    place_rules s generation n otherwise cond (live s.ids generation n) (place_at s.ids n) (place_of 0 MAX)

unfoldable pub getting : Store → ℕ → Answer Place
getting s bits = on_bits (entry s false) bits (place_found s)

-- The others say what the id layer says. Its first tests are among those of the store.
unfoldable pub containing : Store → ℕ → Answer Bool
containing s bits = entry s false or_else ids.containing s.ids bits

unfoldable pub resolving : Store → ℕ → Answer ℕ
resolving s n = entry s false or_else ids.resolving s.ids n

unfoldable pub counting : Store → Answer ℕ
counting s = entry s false or_else ids.counting s.ids
