-- Read: where a component's bytes are, and how many; its twin, those bytes.
use Rattle.std.specs.Prelude.{ℕ, false, List, [], ◌∷◌, get_or}
use Rattle.refusal.specs.Table.{◌when◌, Answer, granted, refused, ◌otherwise◌}
use Rattle.handle.specs.OnBits.{on_bits}
use Rattle.borrow_word.specs.Word.{is_unique}
use Rattle.cells.specs.Cell.{cell}
use Rattle.store_tables.specs.Store.{Store, entry}
use Rattle.store_reads.specs.declared.component.Cell.{Cell}
use Rattle.store_reads.specs.Component.{◌and_then◌, component_at}

-- 7: its column's word has the top bit set
unfoldable pub cell_read : List ℕ → Cell → Answer (ℕ × ℕ)
cell_read words c = 7 when is_unique (get_or words c.word 0) ∷ [] otherwise (c.start, c.size)

unfoldable pub read_at : Store → ℕ → ℕ → ℕ → Answer (ℕ × ℕ)
read_at s t generation n = component_at s t generation n and_then cell_read s.words

unfoldable pub reading : Store → ℕ → ℕ → Answer (ℕ × ℕ)
reading s bits t = on_bits (entry s false) bits (read_at s t)

-- that part of the bytes, empty on a refusal
abbrev pub bytes_at : List ℕ → Answer (ℕ × ℕ) → List ℕ
bytes_at bytes (granted p) = cell bytes p.0 p.1
bytes_at bytes (refused n) = []
