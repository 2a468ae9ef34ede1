-- What the calls answer and leave, for callers: of components that are held, of those that are not, and of what lies elsewhere.
-- Assumes nothing.
use Prim.{tt}
use Prim.Native.Nat.{ℕ, ◌+◌, ◌≤◌, ◌<◌}
use native.Mathlib.Omega.{arith}
use native.Mathlib.Nat.{eq-or-lt_of_le}
use mathlib.Core.Path.{◌≡◌, refl, sym, ap, ◌∙◌}
use mathlib.Core.Bool.{true, false}
use mathlib.Core.List.{List}
use mathlib.Core.Logic.{inl, inr, ⊎_elim}
use mathlib.Core.Option.{Option, none, some}
use lib.ListN.{length, get_or, set}
use borrow.Author.Tests.{lt-leb, eq-eqb}
use Rattle.refusal.specs.Table.{Answer, granted, refused, ◌or_else◌, passing}
use Rattle.refusal.specs.Laws.{past}
use Rattle.handle.specs.Bits.{MAX, place_of, generation_in, number_in}
use Rattle.handle.specs.OnBits.{on_rest}
use Rattle.borrow_word.specs.Word.{is_unique}
use Rattle.id_tables.specs.Ids.{live, place_at}
use Rattle.id_tables.specs.Lookup.{reserved_new}
use Rattle.id_tables.proofs.Laws.{new_not_live}
use Rattle.decl.specs.Decl.{Decl, archetypes, rows_of, first_column, types_of, size_of}
use Rattle.decl.specs.Places.{cell_start}
use Rattle.decl.specs.Lookup.{column_of}
use Rattle.std.specs.Prelude.{Some, None}
use Rattle.decl.specs.declared.Span.{Span}
use Rattle.decl.proofs.Lists.{below_or_not}
use Rattle.decl.proofs.Placing.{columns_apart, archetypes_apart, cells_apart, cell_from, cell_within}
use Rattle.cells.specs.Cell.{cell, put}
use Rattle.cells.proofs.Laws.{Apart, cell_put, cell_put_apart}
use Rattle.row_step.specs.Tables.{tables_of}
use Rattle.column_entry.specs.Entry.{wrong_size}
use Rattle.store_tables.specs.Store.{Store, with_rows, with_words, entry}
use Rattle.store_tables.specs.Rows.{archetype_of, row_of, owns}
use Rattle.store_tables.specs.Seen.{own_seen}
use Rattle.store_tables.specs.Kept.{Entered}
use Rattle.store_tables.proofs.Places.{owned, not_owned, owns_means}
use Rattle.store_reads.specs.declared.component.Cell.{Cell}
use Rattle.store_reads.specs.Component.{◌and_then◌, place_rules, cell_in, component_at}
use Rattle.store_reads.specs.Read.{cell_read, read_at, reading}
use Rattle.store_reads.specs.Write.{cell_written, write_at}
use Rattle.store_reads.specs.Words.{word_named, word_asked, word_stored, holding}
use Rattle.store_reads.specs.Lookup.{place_found}
use Rattle.store_reads.proofs.Locating.{Held, component_at_lem}
use Rattle.store_reads.proofs.Writing.{value_long, value_fits}
use Rattle.store_reads.proofs.Holding.{holding_at}

module _ (s : Store) (t g n : ℕ) where
  -- a live entity that holds the type
  pub held : (j : ℕ) → live s.ids g n ≡ true → owns s n ≡ true → column_of (types_of s.decl (archetype_of s n)) t ≡ Some j
      → Held s t g n (cell_in s.decl (archetype_of s n) (row_of s n) j)
  held j l o e = record { alive = l; own = o; column = j; at = e; cell = refl }

  pub read_held : (c : Cell) → Held s t g n c → is_unique (get_or s.words c.word 0) ≡ false → read_at s t g n ≡ granted (c.start, c.size)
  unfolding read_at cell_read ◌or_else◌
  read_held c h w = ap (λ (k : Answer Cell). k and_then cell_read s.words) (component_at_lem s t g n c h) ∙ rw w

  pub write_held : (value : List ℕ) (c : Cell) → Held s t g n c → get_or s.words c.word 0 ≡ 0
      → write_at s t value g n ≡ granted (tt, with_rows s (tables_of s.rows.numbers s.rows.counts (put s.rows.bytes c.start value)))
  unfolding write_at cell_written ◌or_else◌
  write_held value c h w = ap (λ (k : Answer Cell). k and_then cell_written s value) (component_at_lem s t g n c h) ∙ rw (eq-eqb _ _ w)

  -- 15: a live entity of an archetype without the type, and a reserved new number
  pub component_missing : live s.ids g n ≡ true → owns s n ≡ true → column_of (types_of s.decl (archetype_of s n)) t ≡ None
      → component_at s t g n ≡ refused 15
  unfolding component_at place_rules ◌or_else◌
  component_missing l o e = rw (l, o, e)

  pub component_reserved : reserved_new s.ids.head g n ≡ true → component_at s t g n ≡ refused 15
  unfolding component_at place_rules ◌or_else◌
  component_reserved r = rw (new_not_live s.ids g n r, r)

  -- and so it is read
  pub read_refused : {m : ℕ} → component_at s t g n ≡ refused m → read_at s t g n ≡ refused m
  unfolding read_at
  read_refused e = ap (λ (k : Answer Cell). k and_then cell_read s.words) e

  pub write_refused : (value : List ℕ) {m : ℕ} → component_at s t g n ≡ refused m → write_at s t value g n ≡ refused m
  unfolding write_at
  write_refused value e = ap (λ (k : Answer Cell). k and_then cell_written s value) e

-- past the first tests, read says what it says of the handle
pub reading_at : (s : Store) (bits t : ℕ) → granted tt ≡ passing (entry s false) → (generation_in bits ≡ 0 → ⊥)
    → reading s bits t ≡ read_at s t (generation_in bits) (number_in bits)
unfolding reading
reading_at s bits t e ne = on_rest (entry s false) bits (read_at s t) e ne

-- get of a live entity in its own place, and of a reserved new number
pub place_live : (s : Store) (g n : ℕ) → live s.ids g n ≡ true → owns s n ≡ true → place_found s g n ≡ granted (place_at s.ids n)
unfolding place_found place_rules ◌or_else◌
place_live s g n l o = rw (l, o)

pub place_new : (s : Store) (g n : ℕ) → reserved_new s.ids.head g n ≡ true → place_found s g n ≡ granted (place_of 0 MAX)
unfolding place_found place_rules ◌or_else◌
place_new s g n r = rw (new_not_live s.ids g n r, r)

-- Two cells of a declaration have no byte in common.
module _ (d : Decl) (a b j k r q : ℕ) (row : r < rows_of d a) (row' : q < rows_of d b) where
  abbrev Separate : Type 0
  Separate = Apart (cell_start d a j r) (size_of d a j) (cell_start d b k q) (size_of d b k)

  by_row : a ≡ b → j ≡ k → (r ≡ q → ⊥) → Separate
  by_row e f ne =
      rw (e, f)
      (⊎_elim (λ (h : r < q). inl (cells_apart d b k r q h))
      (λ (h : q ≤ r). ⊎_elim (λ (x : q ≡ r). absurd (ne (sym x))) (λ (x : q < r). inr (cells_apart d b k q r x)) (eq-or-lt_of_le h)) (below_or_not r q))

  by_column : a ≡ b → (j ≡ k → r ≡ q → ⊥) → Separate
  by_column e ne =
      ⊎_elim (λ (h : j < k). inl (rw (← e) (omega (arith, cell_within d a j r row, columns_apart d a j k h, cell_from d a k q))))
      (λ (h : k ≤ j). ⊎_elim (λ (x : k ≡ j). by_row e (sym x) (ne (sym x)))
      (λ (x : k < j). inr (rw e (omega (arith, cell_within d b k q row', columns_apart d b k j x, cell_from d b j r)))) (eq-or-lt_of_le h)) (below_or_not j k)

  pub apart : (a ≡ b → j ≡ k → r ≡ q → ⊥) → Separate
  apart ne =
      ⊎_elim (λ (h : a < b). inl (omega (arith, cell_within d a j r row, archetypes_apart d a b j k h, cell_from d b k q)))
      (λ (h : b ≤ a). ⊎_elim (λ (x : b ≡ a). by_column (sym x) (ne (sym x)))
      (λ (x : b < a). inr (omega (arith, cell_within d b k q row', archetypes_apart d b a k j x, cell_from d a j r))) (eq-or-lt_of_le h)) (below_or_not a b)

-- What a write leaves.
module _ (s : Store) (e : Entered s) (t g n : ℕ) (value : List ℕ) (right : wrong_size s.decl.types s.decl.sizes t (length value) ≡ false)
    (c : Cell) (h : Held s t g n c) where
  -- the bytes are those that were written
  pub written_here : cell (put s.rows.bytes c.start value) c.start c.size ≡ value
  written_here = cell_put s.rows.bytes c.start value (value_fits s e t g n value right c h) c.size (sym (value_long s e t g n value right c h))

  -- every other cell of a row that is declared is as it was
  pub written_elsewhere : (a j r : ℕ) → r < rows_of s.decl a → (a ≡ archetype_of s n → j ≡ h.column → r ≡ row_of s n → ⊥)
      → cell (put s.rows.bytes c.start value) (cell_start s.decl a j r) (size_of s.decl a j) ≡ cell s.rows.bytes (cell_start s.decl a j r) (size_of s.decl a j)
  written_elsewhere a j r row ne =
      let w = owns_means s n h.own in
      let own : row_of s n < rows_of s.decl (archetype_of s n) = omega (arith, w.row_in, e.rows.counts_in (archetype_of s n)) in
      let p = apart s.decl a (archetype_of s n) j h.column r (row_of s n) row own ne in
      cell_put_apart s.rows.bytes c.start value (value_fits s e t g n value right c h) (cell_start s.decl a j r) (size_of s.decl a j)
      (rw (← value_long s e t g n value right c h, h.cell) p)

-- other bytes change no component's place
module _ (s : Store) (e : Entered s) (b : List ℕ) (long : length b ≡ length s.rows.bytes) where
  abbrev after : Store
  after = with_rows s (tables_of s.rows.numbers s.rows.counts b)

  pub still_entered : Entered after
  still_entered =
      record {
        ids = e.ids;
        rows = record {
          tabled = record {
            kept = e.rows.tabled.kept;
            numbers_long = e.rows.tabled.numbers_long;
            counts_long = e.rows.tabled.counts_long;
            bytes_long = long ∙ e.rows.tabled.bytes_long;
          };
          counts_in = e.rows.counts_in;
        };
        words_long = e.words_long;
      }

  pub still_owns : (n : ℕ) → owns after n ≡ owns s n
  still_owns n = by (own_seen s.decl s.rows.numbers s.rows.counts (archetype_of s n) (row_of s n) n) refl
    where
      by : (x : Option Span) → own_seen s.decl s.rows.numbers s.rows.counts (archetype_of s n) (row_of s n) n ≡ x → owns after n ≡ owns s n
      by none p = not_owned after n still_entered (sym p) ∙ sym (not_owned s n e (sym p))
      by (some x) p = (owned after n still_entered x (sym p)).0 ∙ sym (owned s n e x (sym p)).0

  pub still_there : (t g n : ℕ) → component_at after t g n ≡ component_at s t g n
  unfolding component_at place_rules
  still_there t g n = rw (still_owns n)

  pub still_read : (t g n : ℕ) → read_at after t g n ≡ read_at s t g n
  unfolding read_at
  still_read t g n = ap (λ (k : Answer Cell). k and_then cell_read s.words) (still_there t g n)

-- The word of a column that is declared, and what its rule leaves of it.
module _ (s : Store) (a t j : ℕ) (e : granted tt ≡ passing (entry s false)) (declared : a < archetypes s.decl) (at : column_of (types_of s.decl a) t ≡ Some j) where
  pub asked_at : word_asked s a t ≡ granted (first_column s.decl a + j)
  unfolding word_asked word_named ◌or_else◌
  asked_at = past (entry s false) (word_named s.decl a t) e ∙ rw (lt-leb (archetypes s.decl) a declared, at)

  pub hold_granted : (rule : ℕ → Answer ℕ) (w : ℕ) → rule (get_or s.words (first_column s.decl a + j) 0) ≡ granted w
      → holding rule s a t ≡ granted (tt, with_words s (set s.words (first_column s.decl a + j) w))
  hold_granted rule w h =
      holding_at rule s a t (first_column s.decl a + j) (sym asked_at) ∙ ap (word_stored s (first_column s.decl a + j)) h
