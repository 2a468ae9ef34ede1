-- Read: the ways through its rule, and what it grants.
-- Assumes nothing.
use Prim.Native.Nat.{ℕ, ◌+◌, ◌/◌, ◌^◌, ◌≤◌}
use native.Mathlib.Omega.{arith}
use mathlib.Core.Path.{◌≡◌, refl, sym, ap, ◌∙◌}
use mathlib.Core.Bool.{false}
use mathlib.Core.List.{List, [], ◌∷◌}
use borrow.Author.Tests.{eq-eqb, ne_eqb}
use lib.ListN.{length, get_or}
use Rattle.refusal.specs.Table.{◌when◌, Answer, granted, refused, ◌or_else◌}
use Rattle.refusal.specs.Laws.{not_refused, value_of_lem}
use Rattle.handle.specs.Bits.{generation_in, number_in}
use Rattle.handle.specs.OnBits.{on_granted}
use Rattle.borrow_word.specs.Word.{is_unique}
use Rattle.cells.specs.Cell.{part_of as part_at}
use Rattle.cells.proofs.Laws.{part_fits}
use Rattle.store_tables.specs.Store.{Store, entry}
use Rattle.store_tables.specs.Rows.{archetype_of, row_of}
use Rattle.store_tables.specs.Kept.{Entered}
use Rattle.store_tables.proofs.Entering.{entered}
use Rattle.store_tables.proofs.Places.{owns_means}
use Rattle.store_reads.specs.declared.component.Cell.{Cell}
use Rattle.store_reads.specs.Component.{◌and_then◌, component_at}
use Rattle.store_reads.specs.Read.{cell_read, read_at, reading, bytes_at}
use Rattle.store_reads.proofs.Cells.{cell_fits}
use Rattle.store_reads.proofs.Locating.{Held, component_parts}

-- the word of a cell
module _ (words : List ℕ) (c : Cell) (w : ℕ) (word : w ≡ get_or words c.word 0) where
  pub cell_held : w / 2 ^ 63 ≡ 1 → refused 7 ≡ cell_read words c
  unfolding ◌or_else◌ cell_read
  cell_held h = rw (← word, eq-eqb (w / 2 ^ 63) 1 h)

  pub cell_free : (w / 2 ^ 63 ≡ 1 → ⊥) → granted (c.start, c.size) ≡ cell_read words c
  unfolding ◌or_else◌ cell_read
  cell_free h = rw (← word, ne_eqb (w / 2 ^ 63) 1 h)

-- the rule, from the steps
pub read_told : (s : Store) (t g n : ℕ) {k : Answer Cell} → component_at s t g n ≡ k → {x : Answer (ℕ × ℕ)} → x ≡ (k and_then cell_read s.words) → x ≡ read_at s t g n
unfolding read_at
read_told s t g n q h = h ∙ sym (ap (λ (m : Answer Cell). m and_then cell_read s.words) q)

-- what is granted is the cell of a component that is held
module _ (s : Store) (t g n : ℕ) where
  by_component : {p : ℕ × ℕ} (k : Answer Cell) → component_at s t g n ≡ k → granted p ≡ (k and_then cell_read s.words) → (c : Cell) × (Held s t g n c) × (p ≡ (c.start, c.size))
  unfolding cell_read
  by_component (granted c) e h = (c, component_parts s t g n c (sym e), value_of_lem (7 when is_unique (get_or s.words c.word 0) ∷ []) (c.start, c.size) h)
  by_component (refused m) e h = absurd (not_refused h)

  pub read_parts : {p : ℕ × ℕ} → granted p ≡ read_at s t g n → (c : Cell) × (Held s t g n c) × (p ≡ (c.start, c.size))
  unfolding read_at
  read_parts h = by_component (component_at s t g n) refl h

-- it lies in the bytes
pub held_fits : (s : Store) (t g n : ℕ) (c : Cell) → Entered s → Held s t g n c → c.start + c.size ≤ length s.rows.bytes
held_fits s t g n c e h =
    let w = owns_means s n h.own in
    rw (h.cell, e.rows.tabled.bytes_long)
    (cell_fits s.decl (archetype_of s n) h.column (row_of s n) w.archetype_in (omega (arith, w.row_in, e.rows.counts_in (archetype_of s n))))

pub read_fits : (s : Store) (bits t start size : ℕ) → granted (start, size) ≡ reading s bits t → start + size ≤ length s.rows.bytes
unfolding reading
read_fits s bits t start size e =
    let p = on_granted (entry s false) bits (read_at s t) e in
    let q = read_parts s t (generation_in bits) (number_in bits) p.2 in
    let f = held_fits s t (generation_in bits) (number_in bits) q.0 (entered s false p.0) q.1 in
    omega (arith, f, ap (λ (x : ℕ × ℕ). x.0) q.2, ap (λ (x : ℕ × ℕ). x.1) q.2)

-- the twin
pub bytes_some : (s : Store) (bits t start size : ℕ) (x : List ℕ) → granted (start, size) ≡ reading s bits t → x ≡ part_at s.rows.bytes start size
    → x ≡ bytes_at s.rows.bytes (reading s bits t)
bytes_some s bits t start size x e h =
    h ∙ part_fits s.rows.bytes start size (read_fits s bits t start size e) ∙ ap (bytes_at s.rows.bytes) e
