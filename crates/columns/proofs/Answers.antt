-- What passing its tests gives each call, and that its step is then what its rule grants.
-- Assumes nothing.
use Prim.{tt}
use Prim.Native.Nat.{ℕ, ◌+◌, ◌-◌, ◌≤◌, ◌<◌}
use mathlib.Core.List.{List, [], ◌++◌}
use mathlib.Core.Option.{Option}
use mathlib.Core.Path.{◌≡◌, sym, ap, ◌∙◌}
use native.Mathlib.Omega.{arith}
use borrow.Author.Tests.{lt-ltb, leb-false, eqb-true, not-false}
use lib.ListN.{length, set, take, drop}
use Rattle.std.specs.Prelude as prelude
use Rattle.std.specs.Prelude.{Some, None}
use Rattle.refusal.specs.Table.{Answer, granted, refused, passing, Did}
use Rattle.refusal.specs.Laws.{passed, passed_all, past, halted, not_refused, value_of_lem, grant, refuse, both}
use Rattle.decl.specs.Decl.{Decl, archetypes, rows_of, first_row, types_of, sizes_of}
use Rattle.decl.specs.Places.{row_width, base_of}
use Rattle.decl.specs.Lookup.{column_of}
use Rattle.decl.specs.declared.Span.{Span}
use Rattle.decl.proofs.Keeping.{types_length, sizes_length}
use Rattle.decl.proofs.Search.{Stands, column_stands}
use Rattle.cells.specs.Cell.{written, part_of}
use Rattle.cells.specs.Line.{row_bytes}
use Rattle.cells.proofs.Laws.{cell_lent, part_fits}
use Rattle.cells.proofs.Blocks.{block_ends}
use Rattle.row_step.specs.Tables.{Rows, tables_of, count_of, line_in}
use Rattle.row_step.proofs.Held.{appended_tables}
use Rattle.column_entry.proofs.Widths.{line_cell, block_in_lem}
use Rattle.column_entry.specs.Entry.{span_in, table_rules, count_rules, entry_rules, row_rules, block_in}
use Rattle.column_entry.specs.Kept.{Kept, Ready, There}
use Rattle.column_entry.proofs.Keeping.{tabled, counted, ready, there, row_within}
use Rattle.columns.specs.Calls.{room_rules, allocate_rules, allocated_in, held_rules, removal, removed_in, width_rules, move_rules, moved_out, size_rules, put_rules, put_at, put_in, cell_for, got_in, ids_rules, ids_in, part_for}
use Rattle.columns.proofs.Places.{rows_in, first_told}

same_value : {A : Type 0} {x y : A} → granted x ≡ granted y → x ≡ y
same_value e = cc

same_number : {A : Type 0} {m n : ℕ} → ◌≡◌ {A = Answer A} (refused m) (refused n) → m ≡ n
same_number e = cc

module _ (d : Decl) (w : Rows) (a : ℕ) where
  -- Allocate.
  module _ (e : granted tt ≡ passing (allocate_rules d w a)) where
    allocate_room : granted tt ≡ passing (room_rules d.rows w.counts a)
    unfolding allocate_rules
    allocate_room = (both (entry_rules d w) _ e).1

    -- what its step asks
    pub allocate_asked : Kept d × ((a < length w.counts) × (length w.counts ≡ archetypes d) × (count_of w a < rows_of d a))
    unfolding allocate_rules room_rules
    allocate_asked =
        let g = ready d w (both (entry_rules d w) _ e).0 in
        let p = passed 6 _ _ _ allocate_room in
        let h : a < archetypes d = leb-false _ _ p.0 in
        (g.tabled.kept, (omega (arith, g.tabled.counts_long), g.tabled.counts_long, leb-false _ _ (passed 4 _ _ _ p.1).0))

    pub allocate_did : (n r : ℕ) (numbers counts : List ℕ) → r ≡ count_of w a → numbers ≡ set w.numbers (first_row d a + count_of w a) n → counts ≡ set w.counts a (count_of w a + 1)
        → Did (allocated_in d w a n) w (granted r) (tables_of numbers counts w.bytes)
    unfolding allocated_in
    allocate_did n r numbers counts p q s =
        rw (p, q, s)
        (grant (past _ _ e ∙ ap (λ (x : Rows). granted (count_of w a, x)) (appended_tables (block_in d a) w a n)))

  pub allocate_refused : (n : ℕ) {m : ℕ} → refused m ≡ passing (allocate_rules d w a) → Did (allocated_in d w a n) w (refused m) w
  unfolding allocated_in
  allocate_refused n e = refuse (halted _ _ e)

  -- Ids.
  pub ids_refused : {m : ℕ} → refused m ≡ passing (ids_rules d w a) → refused m ≡ ids_in d w a
  unfolding ids_in
  ids_refused e = sym (halted _ _ e)

  ids_ready : granted tt ≡ passing (ids_rules d w a) → Ready d w
  unfolding ids_rules
  ids_ready e = ready d w (both (entry_rules d w) _ e).0

  ids_declared : granted tt ≡ passing (ids_rules d w a) → a < archetypes d
  unfolding ids_rules
  ids_declared e = leb-false _ _ (passed 6 _ _ _ (both (entry_rules d w) _ e).1).0

  pub ids_told : granted tt ≡ passing (ids_rules d w a) → (s : Span) (n : ℕ) → s ≡ span_in d a → n ≡ count_of w a → granted (s.row, n) ≡ ids_in d w a
  unfolding ids_in
  ids_told e s n p q = rw (first_told d a (ids_ready e).tabled.kept (omega (arith, ids_declared e)) s p, q) (sym (past _ _ e))

  -- the part is within the table, and is the one that is answered
  module _ (start count : ℕ) (e : granted (start, count) ≡ ids_in d w a) where
    ids_passed : granted tt ≡ passing (ids_rules d w a)
    unfolding ids_in
    ids_passed = (passed_all (ids_rules d w a) _ e).0

    ids_value : ◌≡◌ {A = ℕ × ℕ} (start, count) (first_row d a, count_of w a)
    unfolding ids_in
    ids_value = value_of_lem (ids_rules d w a) (first_row d a, count_of w a) e

    pub ids_fit : start + count ≤ length w.numbers
    ids_fit =
        let g = ids_ready ids_passed in
        omega (
          arith,
          rows_in d a (ids_declared ids_passed),
          g.counts_in a,
          g.tabled.numbers_long,
          ap (λ (x : ℕ × ℕ). x.0) ids_value,
          ap (λ (x : ℕ × ℕ). x.1) ids_value,
        )

    pub ids_lent : take (start + count - start) (drop start w.numbers) ≡ part_for (ids_in d w a) w.numbers
    ids_lent = cell_lent w.numbers start count ∙ ap (λ (x : Answer (ℕ × ℕ)). part_for x w.numbers) e

  pub ids_empty : {m : ℕ} → refused m ≡ ids_in d w a → [] ≡ part_for (ids_in d w a) w.numbers
  ids_empty e = ap (λ (x : Answer (ℕ × ℕ)). part_for x w.numbers) e

module _ (d : Decl) (w : Rows) (a r : ℕ) where
  -- a row that is there: remove and get
  pub held_there : granted tt ≡ passing (held_rules d w a r) → There d w a r
  unfolding held_rules
  held_there e = let p = both (entry_rules d w) _ e in there d w a r (ready d w p.0) p.1

  -- what finding a cell asks
  asked : There d w a r → Kept d × ((a < archetypes d) × (r < rows_of d a))
  asked t = (t.ready.tabled.kept, (t.archetype_in, row_within t))

  pub get_asked : granted tt ≡ passing (held_rules d w a r) → Kept d × ((a < archetypes d) × (r < rows_of d a))
  get_asked e = asked (held_there e)

  -- four runs of tests: move out and put
  middle_there : (B : _) → granted tt ≡ passing (table_rules d w ++ B ++ count_rules d.rows w.counts ++ row_rules d.rows w.counts a r)
      → There d w a r × (granted tt ≡ passing B)
  middle_there B e =
      let p = both (table_rules d w ++ B ++ count_rules d.rows w.counts) _ e in
      let q = both (table_rules d w ++ B) _ p.0 in
      let s = both (table_rules d w) B q.0 in
      (there d w a r (counted d w (tabled d w s.0) q.1) p.1, s.1)

  -- Remove row.
  pub remove_refused : {m : ℕ} → refused m ≡ passing (held_rules d w a r) → Did (removed_in d w a r) w (refused m) w
  unfolding removed_in
  remove_refused e = refuse (halted _ _ e)

  pub remove_did : granted tt ≡ passing (held_rules d w a r) → {x : Answer (Option ℕ)} (m : Option ℕ) (left : Rows) → (m, left) ≡ removal d w a r → x ≡ granted m
      → Did (removed_in d w a r) w x left
  unfolding removed_in
  remove_did e m left p q = rw q (grant (past _ _ e ∙ ap granted (sym p)))

  -- Move out.
  module _ (out : List ℕ) where
    pub move_refused : {m : ℕ} → refused m ≡ passing (move_rules d w (length out) a r) → Did (moved_out d w out a r) (w, out) (refused m) (w, out)
    unfolding moved_out
    move_refused e = refuse (halted _ _ e)

    pub move_did : granted tt ≡ passing (move_rules d w (length out) a r) → {x : Answer (Option ℕ)} (m : Option ℕ) (left : Rows) (out' : List ℕ) → (m, left) ≡ removal d w a r
        → x ≡ granted m → out' ≡ row_bytes w.bytes (line_in (block_in d a) r) (sizes_of d a) → Did (moved_out d w out a r) (w, out) x (left, out')
    unfolding moved_out
    move_did e m left out' p q s =
        rw (q, s) (grant (past _ _ e ∙ ap (λ (y : Option ℕ × Rows). granted (y.0, (y.1, row_bytes w.bytes (line_in (block_in d a) r) (sizes_of d a)))) (sym p)))

  -- what its steps ask
  pub move_there : (len : ℕ) → granted tt ≡ passing (move_rules d w len a r) → There d w a r
  unfolding move_rules
  move_there len e = (middle_there (width_rules d a len) e).0

  pub move_asked : (len : ℕ) → granted tt ≡ passing (move_rules d w len a r)
      → Kept d × ((a < archetypes d) × (r < rows_of d a) × (len ≡ row_width d a) × (length w.bytes ≡ base_of d (archetypes d)))
  unfolding move_rules width_rules
  move_asked len e =
      let g = middle_there (width_rules d a len) e in
      let f = (passed 13 _ _ _ g.1).0 in (
        g.0.ready.tabled.kept,
        (g.0.archetype_in, row_within g.0, eqb-true _ _ (not-false _ (rw (lt-ltb a (archetypes d) g.0.archetype_in) at f)), g.0.ready.tabled.bytes_long),
      )

  module _ (t : ℕ) where
    -- Get.
    pub get_refused : {m : ℕ} → refused m ≡ passing (held_rules d w a r) → refused m ≡ got_in d w a r t
    unfolding got_in
    get_refused e = sym (halted _ _ e)

    pub get_told : granted tt ≡ passing (held_rules d w a r) → {x : Answer (ℕ × ℕ)} → x ≡ cell_for d a r (column_of (types_of d a) t) → x ≡ got_in d w a r t
    unfolding got_in
    get_told e f = f ∙ sym (past _ _ e)

    -- a cell that is found lies in the buffer
    cell_fits : There d w a r → (c : prelude.Option ℕ) → Stands (types_of d a) t c → {start n : ℕ} → granted (start, n) ≡ cell_for d a r c → start + n ≤ length w.bytes
    cell_fits g (Some j) p e =
        let k = g.ready.tabled.kept.declared.shaped in
        let h : j < length (sizes_of d a) = omega (arith, types_length d k a, sizes_length d k a) in
        let s = same_value e in
        omega (
          arith,
          block_ends (sizes_of d a) (base_of d a) (rows_of d a) r j (omega (arith, g.row_in, g.ready.counts_in a)) h,
          line_cell d a r j (omega arith),
          block_in_lem d a g.archetype_in,
          g.ready.tabled.bytes_long,
          ap (λ (x : ℕ × ℕ). x.0) s,
          ap (λ (x : ℕ × ℕ). x.1) s,
        )
    cell_fits g None p e = absurd (not_refused e)

    pub got_part : (start n : ℕ) (part : List ℕ) → granted (start, n) ≡ got_in d w a r t → part ≡ part_of w.bytes start n → part ≡ part_for (got_in d w a r t) w.bytes
    unfolding got_in
    got_part start n part e f =
        let p = passed_all (held_rules d w a r) _ e in
        let h = cell_fits (held_there p.0) (column_of (types_of d a) t) (column_stands (types_of d a) t) p.1 in
        f ∙ part_fits w.bytes start n h ∙ ap (λ (x : Answer (ℕ × ℕ)). part_for x w.bytes) e

    pub got_empty : {m : ℕ} → refused m ≡ got_in d w a r t → [] ≡ part_for (got_in d w a r t) w.bytes
    got_empty e = ap (λ (x : Answer (ℕ × ℕ)). part_for x w.bytes) e

    -- Put.
    pub put_asked : (len : ℕ) → granted tt ≡ passing (put_rules d w a r t len) → Kept d × ((a < archetypes d) × (r < rows_of d a))
    unfolding put_rules
    put_asked len e = asked (middle_there (size_rules d.rows d.types d.sizes a t len) e).0

    module _ (vs : List ℕ) where
      pub put_refused : {m : ℕ} → refused m ≡ passing (put_rules d w a r t (length vs)) → Did (put_in d w a r t vs) w (refused m) w
      unfolding put_in
      put_refused e = refuse (halted _ _ e)

      module _ (e : granted tt ≡ passing (put_rules d w a r t (length vs))) where
        none_put : (c : prelude.Option ℕ) {m : ℕ} → refused m ≡ cell_for d a r c → put_at d w a r vs c ≡ refused m
        none_put (Some j) f = absurd (not_refused (sym f))
        none_put None f = ap refused (sym (same_number f))

        pub put_missing : {m : ℕ} → refused m ≡ cell_for d a r (column_of (types_of d a) t) → Did (put_in d w a r t vs) w (refused m) w
        unfolding put_in
        put_missing f = refuse (past _ _ e ∙ none_put (column_of (types_of d a) t) f)

        one_put : (c : prelude.Option ℕ) (start n : ℕ) → granted (start, n) ≡ cell_for d a r c → put_at d w a r vs c ≡ granted (tt, tables_of w.numbers w.counts (written w.bytes start vs))
        one_put (Some j) start n f =
            ap (λ (x : ℕ × ℕ). granted (tt, tables_of w.numbers w.counts (written w.bytes x.0 vs))) (sym (same_value f))
        one_put None start n f = absurd (not_refused f)

        pub put_did : (start n : ℕ) (bytes : List ℕ) → granted (start, n) ≡ cell_for d a r (column_of (types_of d a) t) → bytes ≡ written w.bytes start vs
            → Did (put_in d w a r t vs) w (granted tt) (tables_of w.numbers w.counts bytes)
        unfolding put_in
        put_did start n bytes f p = rw p (grant (past _ _ e ∙ one_put (column_of (types_of d a) t) start n f))
