-- A flush whose rows fit is refused for damage alone, past the first tests.
-- Assumes nothing.
use Prim.{tt}
use Prim.Native.Nat.{ℕ, ◌+◌, ◌≤◌}
use mathlib.Core.Path.{◌≡◌, sym, ◌∙◌}
use mathlib.Core.Bool.{false}
use mathlib.Core.List.{[], ◌∷◌}
use borrow.Author.Tests.{le-ltb}
use Rattle.refusal.specs.Table.{◌when◌, ◌or_else◌, ◌otherwise◌}
use Rattle.refusal.specs.Laws.{past}
use Rattle.handle.specs.Bits.{MAX}
use Rattle.id_tables.specs.Ids.{Ids, entry, any_damaged, EntryOk}
use Rattle.id_tables.specs.Lookup.{reserved_old}
use Rattle.id_tables.proofs.Meaning.{ok_passes}
use Rattle.id_batches.specs.Flush.{reserved_count, flushed_ids, reserved_placed, flushing}

pub flushing_fits : (s : Ids) (archetype first : ℕ) → EntryOk s → first + reserved_count s ≤ MAX
    → flushing s archetype first ≡ (1 when any_damaged s (reserved_old s) ∷ [] otherwise (tt, flushed_ids s archetype first))
unfolding flushing reserved_placed ◌or_else◌
flushing_fits s archetype first ok h = past (entry s false) _ (sym (ok_passes s ok)) ∙ rw (le-ltb MAX (first + reserved_count s) h)
