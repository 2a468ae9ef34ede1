-- Write: the ways through its rule, and what it leaves.
-- Assumes nothing.
use Prim.{Unit, tt}
use Prim.Native.Nat.{ℕ, ◌+◌, ◌≤◌}
use native.Mathlib.Omega.{arith}
use mathlib.Core.Path.{◌≡◌, refl, sym, ap, ◌∙◌}
use mathlib.Core.Bool.{Bool, true, false, not}
use mathlib.Core.List.{List, [], ◌∷◌}
use lib.Dec.{eqb}
use lib.ListN.{length, get_or}
use borrow.Author.Tests.{eq-eqb, ne_eqb}
use Rattle.refusal.specs.Table.{◌when◌, Answer, granted, refused, ◌or_else◌, ◌otherwise◌, passing, Did}
use Rattle.refusal.specs.Laws.{grant, refuse, via}
use Rattle.refusal.specs.declared.Refusal.{Refusal}
use Rattle.handle.specs.Bits.{generation_in, number_in, handle_of, from_bits}
use Rattle.handle.specs.OnBits.{on_first, on_zero, on_good}
use Rattle.std.specs.Prelude.{Result, Ok, Err}
use Rattle.handle.specs.declared.Handle.{Handle}
use Rattle.decl.specs.Decl.{first_column, types_of}
use Rattle.std.specs.Prelude.{Some}
use Rattle.decl.proofs.Keeping.{type_at, size_at}
use Rattle.decl.proofs.Search.{Stands, column_stands}
use Rattle.cells.specs.Cell.{put, written}
use Rattle.cells.proofs.Laws.{written_fits}
use Rattle.row_step.specs.Tables.{tables_of}
use Rattle.column_entry.specs.Entry.{wrong_size}
use Rattle.store_tables.specs.Store.{Store, with_rows, entry}
use Rattle.store_tables.specs.Rows.{archetype_of}
use Rattle.store_tables.specs.Kept.{Entered}
use Rattle.store_tables.proofs.Entering.{entered, entered_right}
use Rattle.store_reads.specs.declared.component.Cell.{Cell}
use Rattle.store_reads.specs.Component.{◌and_then◌, component_at}
use Rattle.store_reads.specs.Steps.{cell_stored}
use Rattle.store_reads.specs.Write.{cell_written, write_at, writing}
use Rattle.store_reads.proofs.Cells.{column_in, word_in}
use Rattle.store_reads.proofs.Sizes.{size_right}
use Rattle.store_reads.proofs.Locating.{Held, component_parts}
use Rattle.store_reads.proofs.Reading.{held_fits}

-- the word of a cell
module _ (words bytes value : List ℕ) (c : Cell) (w : ℕ) (word : w ≡ get_or words c.word 0) where
  pub stored_held : (w ≡ 0 → ⊥) → Did (cell_stored words bytes value c) bytes (refused 8) bytes
  unfolding cell_stored ◌or_else◌
  stored_held h = refuse (rw (← word, ne_eqb w 0 h))

  pub stored_free : w ≡ 0 → (left : List ℕ) → left ≡ written bytes c.start value → Did (cell_stored words bytes value c) bytes (granted tt) left
  unfolding cell_stored ◌or_else◌
  stored_free h left e = rw e (grant (rw (← word, eq-eqb w 0 h)))

-- the first tests, and the bits
module _ (s : Store) (bits t : ℕ) (value : List ℕ) (short : Bool) (size : short ≡ wrong_size s.decl.types s.decl.sizes t (length value)) where
  pub write_first : {m : ℕ} → refused m ≡ passing (entry s short) → writing s bits t value ≡ refused m
  unfolding writing
  write_first e = on_first _ _ _ (e ∙ ap (λ (b : Bool). passing (entry s b)) size)

  pub write_zero : (r : Result Handle Refusal) (x : Refusal) → granted tt ≡ passing (entry s short) → handle_of r ≡ from_bits bits → r ≡ Err x → writing s bits t value ≡ refused 5
  unfolding writing
  write_zero r x e a p = on_zero _ _ _ r x (e ∙ ap (λ (b : Bool). passing (entry s b)) size) a p

-- what is left of a part says what is left of the whole
abbrev over : {A S T : Type 0} → (S → T) → Answer (A × S) → Answer (A × T)
over f (granted x) = granted (x.0, f x.1)
over f (refused n) = refused n

lift : {A S T : Type 0} (f : S → T) (rule : Answer (A × S)) {lent left : S} {a : Answer A} → Did rule lent a left → Did (over f rule) (f lent) a (f left)
lift f (granted x) d = record { answer = d.answer; leaves = ap f d.leaves }
lift f (refused n) d = record { answer = d.answer; leaves = ap f d.leaves }

module _ (s : Store) (e : Entered s) (t g n : ℕ) (value : List ℕ) (right : wrong_size s.decl.types s.decl.sizes t (length value) ≡ false) where
  abbrev with_bytes : List ℕ → Store
  with_bytes b = with_rows s (tables_of s.rows.numbers s.rows.counts b)

  -- the value is as long as the cell
  pub value_long : (c : Cell) → Held s t g n c → c.size ≡ length value
  value_long c h =
      let k = e.rows.tabled.kept in
      let a : ℕ = archetype_of s n in
      let j : ℕ = h.column in
      let i = column_in s.decl a t j k h.at in
      let x : Stands (types_of s.decl a) t (Some j) = rw h.at at (column_stands (types_of s.decl a) t) in
      ap (λ (o : Cell). o.size) h.cell ∙ size_at s.decl a j i
      ∙ size_right s.decl k.declared t (length value) (first_column s.decl a + j) (word_in s.decl a t j k h.at)
      (sym (type_at s.decl a j i) ∙ x.1) right

  pub value_fits : (c : Cell) → Held s t g n c → c.start + length value ≤ length s.rows.bytes
  value_fits c h = omega (arith, held_fits s t g n c e h, value_long c h)

  by_test : (b : Bool) (x : List ℕ)
      → ◌≡◌ {A = Answer (Unit {0} × Store)} (8 when b ∷ [] otherwise (tt, with_bytes x)) (over with_bytes (8 when b ∷ [] otherwise (tt, x)))
  unfolding ◌or_else◌
  by_test true x = refl
  by_test false x = refl

  stored_is : (c : Cell) → Held s t g n c → cell_written s value c ≡ over with_bytes (cell_stored s.words s.rows.bytes value c)
  unfolding cell_written cell_stored
  stored_is c h =
      rw (written_fits s.rows.bytes c.start value (value_fits c h))
      (by_test (not (eqb (get_or s.words c.word 0) 0)) (put s.rows.bytes c.start value))

  by_component : (k : Answer Cell) → component_at s t g n ≡ k
      → (k and_then cell_written s value) ≡ over with_bytes (k and_then cell_stored s.words s.rows.bytes value)
  by_component (granted c) q = stored_is c (component_parts s t g n c (sym q))
  by_component (refused m) q = refl

  pub write_told : {k : Answer Cell} → component_at s t g n ≡ k → {a : Answer (Unit {0})} {left : List ℕ}
      → Did (k and_then cell_stored s.words s.rows.bytes value) s.rows.bytes a left → Did (write_at s t value g n) s a (with_bytes left)
  unfolding write_at
  write_told {k} q d =
      via (by_component (component_at s t g n) refl ∙ ap (λ (x : Answer Cell). over with_bytes (x and_then cell_stored s.words s.rows.bytes value)) q)
      (lift with_bytes (k and_then cell_stored s.words s.rows.bytes value) d)

-- past the first tests and the bits
module _ (s : Store) (bits t : ℕ) (value : List ℕ) (short : Bool) (size : short ≡ wrong_size s.decl.types s.decl.sizes t (length value))
    (e : granted tt ≡ passing (entry s short)) (r : Result Handle Refusal) (h : Handle) (a : handle_of r ≡ from_bits bits) (o : r ≡ Ok h) where
  pub write_good : {k : Answer Cell} → component_at s t (generation_in h.0) (number_in h.0) ≡ k → {x : Answer (Unit {0})} {left : List ℕ}
      → Did (k and_then cell_stored s.words s.rows.bytes value) s.rows.bytes x left
      → Did (writing s bits t value) s x (with_rows s (tables_of s.rows.numbers s.rows.counts left))
  unfolding writing
  write_good q d =
      via (on_good _ _ (write_at s t value) r h (e ∙ ap (λ (b : Bool). passing (entry s b)) size) a o)
      (write_told s (entered s short e) t (generation_in h.0) (number_in h.0) value (sym size ∙ entered_right s short e) q d)
