-- Tables that keep the rules pass each run of the first tests.
-- Assumes nothing.
use Prim.{tt}
use Rattle.std.proofs.Common.{◌≡◌, false, length, sym}
use Rattle.refusal.specs.Table.{granted, passing, ◌or_else◌}
use Rattle.refusal.specs.Laws.{both, passed}
use Rattle.id_tables.specs.Head.{head_rules}
use Rattle.id_tables.specs.Ids.{Ids, capacity, capacity_rules, length_rules, entry, EntryOk}
use Rattle.id_tables.proofs.Meaning.{ok_passes}

pub ok_parts : (s : Ids) → EntryOk s
    → (granted tt ≡ passing (capacity_rules (capacity s))) × (granted tt ≡ passing (length_rules (capacity s) (length s.archetypes) (length s.indices) (length s.pending)))
    × (granted tt ≡ passing (head_rules s.head (capacity s)))
unfolding entry ◌or_else◌
ok_parts s ok =
    let a = both (capacity_rules (capacity s)) _ (sym (ok_passes s ok)) in
    let b = both (length_rules (capacity s) (length s.archetypes) (length s.indices) (length s.pending)) _ a.1 in
    (a.0, b.0, (passed 13 false (head_rules s.head (capacity s)) (granted tt) b.1).1)
