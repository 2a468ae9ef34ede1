-- `id_tables::runs::has` meets its contract. The loop's invariant: what is left of the entries decides, and whole blocks went before it.
use Rattle.std.proofs.Common.{◌≡◌}
use Rattle.std.specs.Slice.Iter.{chunks_exact_rest, chunks_exact_size}
use Rattle.id_tables.specs.Lookup.{any_is}
use Rattle.id_tables.proofs.Scanning.{Left}
use Rattle.id_tables.proofs.runs.has.Given as goal

abbrev pub invariant-loop-block : goal.invariant-loop-block
invariant-loop-block l =
    (goal.iterator-loop-block).can_next l.block-iterator
    × (goal.iterator-loop-block).is_finite l.block-iterator
    × (chunks_exact_size l.block-iterator ≡ 64)
    × (any_is l.number l.entries ≡ any_is l.number (chunks_exact_rest l.block-iterator))
    × Left l.entries (chunks_exact_rest l.block-iterator)
