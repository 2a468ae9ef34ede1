-- What the handle that an insert or a remove names reads afterwards: the value, 15 for what was removed, and every other component as before.
-- Assumes nothing.
use Rattle.std.specs.Prelude.{Option, Some, None}
use Prim.Native.Nat.{ℕ, suc, ◌+◌, ◌-◌, ◌<◌, ◌≤◌}
use native.Mathlib.Omega.{arith}
use native.Mathlib.Nat.{eq-or-lt_of_le}
use native.Mathlib.Numerals.{add-one}
use mathlib.Core.Path.{◌≡◌, refl, sym, ap, ◌∙◌, subst}
use mathlib.Core.Bool.{false}
use mathlib.Core.Logic.{⊎_elim}
use mathlib.Core.List.{List}
use lib.ListN.{length, take}
use Rattle.refusal.specs.Table.{granted, refused}
use Rattle.handle.specs.Bits.{generation_in, number_in}
use Rattle.decl.specs.Decl.{Decl, archetypes, rows_of, width_of, first_column, types_of, type_of, sizes_of, size_of}
use Rattle.decl.specs.Kept.{Declared}
use Rattle.decl.specs.Lookup.{column_of}
use Rattle.decl.proofs.Lists.{below_or_not}
use Rattle.decl.proofs.Keeping.{types_length, size_at, type_at}
use Rattle.decl.proofs.Lending.{columns_in}
use Rattle.decl.proofs.Search.{column_held, column_missing, column_is}
use Rattle.cells.specs.Cell.{cell}
use Rattle.cells.specs.Line.{width}
use Rattle.row_step.specs.Tables.{Rows}
use Rattle.column_entry.specs.Entry.{wrong_size}
use Rattle.columns.specs.Calls.{held_at}
use Rattle.store_tables.specs.Store.{Store}
use Rattle.store_tables.specs.Rows.{archetype_of, row_of}
use Rattle.store_tables.proofs.Entities.{EntityOk}
use Rattle.store_reads.proofs.Cells.{column_in}
use Rattle.store_reads.proofs.Sizes.{size_right}
use Rattle.store_moves.specs.Target.{types_before, with_type, without_type}
use Rattle.store_moves.specs.Moves.{run_with, run_without, moved_to}
use Rattle.store_moves.proofs.Targets.{before_in, wider, type_added, with_before, with_after, with_differs, narrower, without_before, without_after, without_differs}
use Rattle.store_moves.proofs.Passing.{MoveOk}
use Rattle.store_moves.proofs.Standing.{moved_to_lem}
use Rattle.soundness.specs.Sound.{Lives, Sound}
use Rattle.soundness.proofs.Meaning.{live_lives}
use Rattle.store_soundness.specs.Reads.{read_bytes}
use Rattle.store_soundness.proofs.Bridge.{sound_entered, seat_of}
use Rattle.store_soundness.proofs.Reading.{read_held, read_missing}
use Rattle.store_soundness.proofs.Touched.{not_unique}
use Rattle.store_soundness.proofs.MovedReads.{moved_read, moved_lacks}
use Rattle.store_soundness.proofs.Changed.{grown_long, grown_before, grown_here, grown_after, shrunk_long, shrunk_before, shrunk_after}

same_column : {i j : ℕ} → Some i ≡ Some j → i ≡ j
same_column e = cc

module _ {s : Store} (sound : Sound s) (bits : ℕ) (nz : generation_in bits ≡ 0 → ⊥) (k : EntityOk s (generation_in bits) (number_in bits)) (b : ℕ)
    (there : b < archetypes s.decl) (m : MoveOk s (number_in bits) b) where
  abbrev n : ℕ
  n = number_in bits

  abbrev d : Decl
  d = s.decl

  abbrev w : Rows
  w = s.rows

  abbrev a : ℕ
  a = archetype_of s n

  abbrev r : ℕ
  r = row_of s n

  declared : Declared d
  declared = (sound_entered sound).rows.tabled.kept.declared

  lived : Lives s.ids n
  lived = (live_lives s.ids sound.ids (generation_in bits) n k.lives).0

  here : a < archetypes d
  here = (seat_of sound n lived).archetype_in

  row : r < rows_of d a
  row = omega (arith, (seat_of sound n lived).row_in, (sound_entered sound).rows.counts_in a)

  types_a : length (types_of d a) ≡ width_of d a
  types_a = types_length d declared.shaped a

  types_b : length (types_of d b) ≡ width_of d b
  types_b = types_length d declared.shaped b

  -- a component that was held
  was : (u c : ℕ) → column_of (types_of d a) u ≡ Some c → read_bytes s bits u ≡ granted (held_at d w a r c)
  was u c e = read_held sound bits u nz k.lives c e (not_unique s.words m.no_word _)

  -- a column of the target
  stands : (u c : ℕ) → c < width_of d b → type_of d b c ≡ u → column_of (types_of d b) u ≡ Some c
  stands u c h e = column_is (types_of d b) u c (declared.rises b) (omega (arith, types_b)) e

  -- the row with type t put in
  module _ (t : ℕ) (value : List ℕ) (e : types_of d b ≡ with_type t (types_of d a)) (right : wrong_size d.types d.sizes t (length value) ≡ false) where
    abbrev at : ℕ
    at = types_before t (types_of d a)

    at_in : at ≤ length (types_of d a)
    at_in = before_in t (types_of d a)

    one_more : width_of d b ≡ width_of d a + 1
    one_more = wider d declared a b here there t at at_in e

    apart : b ≡ a → ⊥
    apart = with_differs d declared a b here there t at at_in e

    at_b : at < width_of d b
    at_b = omega (arith, at_in, types_a, one_more)

    size : length value ≡ size_of d b at
    size =
        sym (size_at d b at at_b
        ∙ size_right d declared t (length value) (first_column d b + at) (omega (arith, at_b, columns_in d b declared.shaped, declared.shaped.types_long))
        (sym (type_at d b at at_b) ∙ type_added d declared a b here there t at at_in e) right)

    abbrev run : List ℕ
    run = run_with d w a r t value

    reads : (u c : ℕ) → column_of (types_of d b) u ≡ Some c → read_bytes (moved_to s n b run) bits u ≡ granted (cell run (width (take c (sizes_of d b))) (size_of d b c))
    reads u c h =
        subst (λ (z : Store). read_bytes z bits u ≡ granted (cell run (width (take c (sizes_of d b))) (size_of d b c))) (sym (moved_to_lem s n b run))
        (moved_read sound bits k.lives b run there m.row_unused apart nz u m.no_word (grown_long d w a r (sound_entered sound).rows here row b there t value e size) c h)

    lacks : (u : ℕ) → column_of (types_of d b) u ≡ None → read_bytes (moved_to s n b run) bits u ≡ refused 15
    lacks u h = subst (λ (z : Store). read_bytes z bits u ≡ refused 15) (sym (moved_to_lem s n b run)) (moved_lacks sound bits k.lives b run there m.row_unused apart nz u h)

    pub grown_read : read_bytes (moved_to s (number_in bits) b (run_with s.decl s.rows (archetype_of s (number_in bits)) (row_of s (number_in bits)) t value)) bits t ≡ granted value
    grown_read =
        reads t at (stands t at at_b (type_added d declared a b here there t at at_in e))
        ∙ ap granted (grown_here d w a r (sound_entered sound).rows here row b there t value e size)

    held_before : (u c : ℕ) → column_of (types_of d a) u ≡ Some c → read_bytes (moved_to s n b run) bits u ≡ read_bytes s bits u
    held_before u c h =
        let x = column_held (types_of d a) u c h in
        ⊎_elim
        (λ (l : c < at).
        reads u c (stands u c (omega (arith, x.0, types_a, one_more)) (with_before d declared a b here there t at at_in e c l ∙ x.1))
        ∙ ap granted (grown_before d w a r (sound_entered sound).rows here row b there t value e size c l) ∙ sym (was u c h))
        (λ (l : at ≤ c).
        reads u (suc c) (stands u (suc c) (omega (arith, x.0, types_a, one_more)) (ap (λ (i : ℕ). type_of d b i) (sym (add-one c)) ∙ with_after d declared a b here there t at at_in e c l ∙ x.1))
        ∙ ap granted (grown_after d w a r (sound_entered sound).rows here row b there t value e size c l (omega (arith, x.0, types_a))) ∙ sym (was u c h))
        (below_or_not c at)

    lacked_before : (u : ℕ) → (u ≡ t → ⊥) → column_of (types_of d a) u ≡ None → read_bytes (moved_to s n b run) bits u ≡ read_bytes s bits u
    lacked_before u ne h = lacks u (none (column_of (types_of d b) u) refl) ∙ sym (read_missing sound bits u nz k.lives h)
      where
        none : (c : Option ℕ) → column_of (types_of d b) u ≡ c → column_of (types_of d b) u ≡ None
        none None q = q
        none (Some c) q =
            let x = column_held (types_of d b) u c q in
            absurd
            (⊎_elim
            (λ (l : c < at). column_missing (types_of d a) u h c (omega (arith, at_in)) (sym (with_before d declared a b here there t at at_in e c l) ∙ x.1))
            (λ (l : at ≤ c). ⊎_elim
            (λ (z : at ≡ c). ne (sym x.1 ∙ ap (λ (i : ℕ). type_of d b i) (sym z) ∙ type_added d declared a b here there t at at_in e))
            (λ (z : at < c).
            let i : c - 1 + 1 ≡ c = omega arith in
            column_missing (types_of d a) u h (c - 1) (omega (arith, x.0, types_a, types_b, one_more))
            (sym (with_after d declared a b here there t at at_in e (c - 1) (omega arith)) ∙ ap (λ (y : ℕ). type_of d b y) i ∙ x.1)) (eq-or-lt_of_le l))
            (below_or_not c at))

    pub grown_same : (u : ℕ) → (u ≡ t → ⊥)
        → read_bytes (moved_to s (number_in bits) b (run_with s.decl s.rows (archetype_of s (number_in bits)) (row_of s (number_in bits)) t value)) bits u ≡ read_bytes s bits u
    grown_same u ne = by (column_of (types_of d a) u) refl
      where
        by : (c : Option ℕ) → column_of (types_of d a) u ≡ c → read_bytes (moved_to s n b run) bits u ≡ read_bytes s bits u
        by (Some c) h = held_before u c h
        by None h = lacked_before u ne h

  -- the row with the type of column j taken out
  module _ (t j : ℕ) (held : column_of (types_of d a) t ≡ Some j) (e : types_of d b ≡ without_type j (types_of d a)) where
    in_row : j < width_of d a
    in_row = column_in d a t j (sound_entered sound).rows.tabled.kept held

    one_less : width_of d b + 1 ≡ width_of d a
    one_less = narrower d declared a b here there j in_row e

    other : b ≡ a → ⊥
    other = without_differs d declared a b here there j in_row e

    abbrev less : List ℕ
    less = run_without d w a r j

    reads_less : (u c : ℕ) → column_of (types_of d b) u ≡ Some c → read_bytes (moved_to s n b less) bits u ≡ granted (cell less (width (take c (sizes_of d b))) (size_of d b c))
    reads_less u c h =
        subst (λ (z : Store). read_bytes z bits u ≡ granted (cell less (width (take c (sizes_of d b))) (size_of d b c))) (sym (moved_to_lem s n b less))
        (moved_read sound bits k.lives b less there m.row_unused other nz u m.no_word (shrunk_long d w a r (sound_entered sound).rows here row b there j in_row e) c h)

    lacks_less : (u : ℕ) → column_of (types_of d b) u ≡ None → read_bytes (moved_to s n b less) bits u ≡ refused 15
    lacks_less u h = subst (λ (z : Store). read_bytes z bits u ≡ refused 15) (sym (moved_to_lem s n b less)) (moved_lacks sound bits k.lives b less there m.row_unused other nz u h)

    -- a column of the target is one of the row's other columns
    from : (u c : ℕ) → column_of (types_of d b) u ≡ Some c → (i : ℕ) × (column_of (types_of d a) u ≡ Some i) × (i ≡ j → ⊥)
    from u c q =
        let x = column_held (types_of d b) u c q in
        ⊎_elim
        (λ (l : c < j). (c, column_is (types_of d a) u c (declared.rises a) (omega (arith, in_row, types_a)) (sym (without_before d declared a b here there j in_row e c l) ∙ x.1), λ z. omega arith))
        (λ (l : j ≤ c). (c + 1, column_is (types_of d a) u (c + 1) (declared.rises a) (omega (arith, x.0, types_a, types_b, one_less)) (sym (without_after d declared a b here there j in_row e c l) ∙ x.1), λ z. omega arith))
        (below_or_not c j)

    pub shrunk_read : read_bytes (moved_to s (number_in bits) b (run_without s.decl s.rows (archetype_of s (number_in bits)) (row_of s (number_in bits)) j)) bits t ≡ refused 15
    shrunk_read = lacks_less t (none (column_of (types_of d b) t) refl)
      where
        none : (c : Option ℕ) → column_of (types_of d b) t ≡ c → column_of (types_of d b) t ≡ None
        none None q = q
        none (Some c) q = let x = from t c q in absurd (x.2 (same_column (sym x.1 ∙ held)))

    still_held : (u c : ℕ) → (u ≡ t → ⊥) → column_of (types_of d a) u ≡ Some c → read_bytes (moved_to s n b less) bits u ≡ read_bytes s bits u
    still_held u c ne h =
        let x = column_held (types_of d a) u c h in
        let nj : c ≡ j → ⊥ = λ z. ne (sym x.1 ∙ ap (λ (i : ℕ). type_of d a i) z ∙ (column_held (types_of d a) t j held).1) in
        ⊎_elim
        (λ (l : c < j).
        reads_less u c (stands u c (omega (arith, in_row, one_less)) (without_before d declared a b here there j in_row e c l ∙ x.1))
        ∙ ap granted (shrunk_before d w a r (sound_entered sound).rows here row b there j in_row e c l) ∙ sym (was u c h))
        (λ (l : j ≤ c).
        let z : suc (c - 1) ≡ c = omega (arith, nj) in
        let y : c - 1 + 1 ≡ c = omega (arith, nj) in
        reads_less u (c - 1) (stands u (c - 1) (omega (arith, x.0, types_a, one_less, nj)) (without_after d declared a b here there j in_row e (c - 1) (omega (arith, nj)) ∙ ap (λ (i : ℕ). type_of d a i) y ∙ x.1))
        ∙ ap granted (shrunk_after d w a r (sound_entered sound).rows here row b there j in_row e (c - 1) (omega (arith, nj)) (omega (arith, x.0, types_a, z)) ∙ ap (λ (i : ℕ). held_at d w a r i) z) ∙ sym (was u c h))
        (below_or_not c j)

    still_lacked : (u : ℕ) → column_of (types_of d a) u ≡ None → read_bytes (moved_to s n b less) bits u ≡ read_bytes s bits u
    still_lacked u h = lacks_less u (none (column_of (types_of d b) u) refl) ∙ sym (read_missing sound bits u nz k.lives h)
      where
        none : (c : Option ℕ) → column_of (types_of d b) u ≡ c → column_of (types_of d b) u ≡ None
        none None q = q
        none (Some c) q =
            let x = from u c q in
            let y = column_held (types_of d a) u x.0 x.1 in
            absurd (column_missing (types_of d a) u h x.0 y.0 y.1)

    pub shrunk_same : (u : ℕ) → (u ≡ t → ⊥)
        → read_bytes (moved_to s (number_in bits) b (run_without s.decl s.rows (archetype_of s (number_in bits)) (row_of s (number_in bits)) j)) bits u ≡ read_bytes s bits u
    shrunk_same u ne = by (column_of (types_of d a) u) refl
      where
        by : (c : Option ℕ) → column_of (types_of d a) u ≡ c → read_bytes (moved_to s n b less) bits u ≡ read_bytes s bits u
        by (Some c) h = still_held u c ne h
        by None h = still_lacked u h
