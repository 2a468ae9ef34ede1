-- An insert whose tests have passed: the component is overwritten, or the row has moved with the value.
-- Assumes nothing.
use Prim.{tt}
use Prim.Native.Nat.{ℕ, ◌+◌, ◌-◌, ◌≤◌, ◌<◌}
use native.Mathlib.Omega.{arith}
use mathlib.Core.Path.{◌≡◌, refl, sym, ap, ◌∙◌}
use mathlib.Core.Bool.{false}
use mathlib.Core.List.{List, [], ◌∷◌}
use Rattle.std.proofs.Math.Option.{none, some}
use Rattle.std.proofs.Math.Option as math
use Rattle.std.specs.Prelude.{Option, Some, None}
use lib.ListN.{length, get_or, take, drop}
use Rattle.refusal.specs.Table.{◌when◌, Answer, granted, refused, ◌or_else◌, passing, Did}
use Rattle.refusal.specs.Laws.{not_refused, grant, via, passed_all, none_holds, value_of_lem, stops}
use Rattle.handle.specs.declared.Place.{Place}
use Rattle.borrow_word.specs.Slice.{any_held}
use Rattle.id_tables.specs.Ids.{ids_of}
use Rattle.decl.specs.Decl.{Decl, archetypes, rows_of, width_of, first_column, types_of, sizes_of, type_of, size_of}
use Rattle.decl.specs.Lookup.{column_of, searched}
use Rattle.decl.specs.Kept.{Declared}
use Rattle.decl.specs.Places.{span_of, cell_start, base_of}
use Rattle.decl.specs.declared.Span.{Span}
use Rattle.decl.proofs.Keeping.{types_length, type_at, size_at}
use Rattle.decl.proofs.Search.{column_held}
use Rattle.decl.proofs.Lending.{columns_in}
use Rattle.cells.specs.Cell.{put, written}
use Rattle.cells.specs.Line.{line_of, cell_of, past_of, told, line_told}
use Rattle.cells.specs.declared.Line.{Line}
use Rattle.cells.proofs.Laws.{written_fits}
use Rattle.row_step.specs.Tables.{Rows, tables_of}
use Rattle.column_entry.specs.Entry.{wrong_size, block_in}
use Rattle.column_entry.specs.Kept.{Kept}
use Rattle.store_steps.specs.Seats.{seats_of}
use Rattle.store_tables.specs.Store.{Store, store_of}
use Rattle.store_tables.specs.Rows.{archetype_of, row_of}
use Rattle.store_tables.proofs.Places.{Owned, owns_means}
use Rattle.store_reads.specs.declared.component.Cell.{Cell}
use Rattle.store_reads.proofs.Cells.{column_in as held_in, column_found, cell_found, cell_fits}
use Rattle.store_reads.proofs.Sizes.{size_right}
use Rattle.store_moves.specs.Target.{types_before, target_of, with_type}
use Rattle.store_moves.specs.Moves.{move_rules, run_with, moved_into}
use Rattle.store_moves.specs.Steps.{moved_seats}
use Rattle.store_moves.specs.Kept.{Moving}
use Rattle.store_moves.proofs.Seeking.{target_means}
use Rattle.store_moves.proofs.Targets.{before_in, wider, type_added, with_differs}
use Rattle.store_moves.proofs.Passing.{MoveOk, move_ok, into_none, into_refused, into_granted}
use Rattle.store_moves.proofs.Moving.{all_small, all_in, has_moved}
use Rattle.store_moves.proofs.Owning.{column_in, moving}
use Rattle.store_insert.specs.declared.Way.{Way}
use Rattle.store_insert.specs.declared.Way.TheVariants.{Over, Into}
use Rattle.store_insert.specs.Insert.{overwritten, inserted_at, inserting}
use Rattle.store_insert.specs.Seen.{way_into, way_for, Placed}

-- they refuse as the rule does
same_number : {A : Type 0} {m k : ℕ} → ◌≡◌ {A = Answer A} (refused m) (refused k) → m ≡ k
same_number e = cc

module _ (s : Store) (n t : ℕ) (value : List ℕ) where
  into_stays : {m : ℕ} (j : ℕ) (o : math.Option ℕ) (run : List ℕ) → refused m ≡ way_into s n j o → moved_into s n o run ≡ refused m
  unfolding way_into
  into_stays j none run e = into_none s n run ∙ ap (λ (k : ℕ). refused k) (sym (same_number e))
  into_stays j (some b) run e = into_refused s n run b (sym (stops (move_rules s n b) (Into j b) (granted tt) e))

  pub stays : {m : ℕ} (c : Option ℕ) → refused m ≡ way_for s n t c → inserted_at s n t value c ≡ refused m
  unfolding way_for inserted_at
  stays None e = into_stays _ _ _ e
  stays (Some j) e = stops (8 when any_held s.words ∷ []) (Over j) (granted (tt, overwritten s n j value)) e

-- and what they find when they pass
apart : {j b k : ℕ} → Into j b ≡ Over k → ⊥
apart e = let z : ◌≡◌ {A = ℕ} 0 1 = cc in omega arith

record FoundOver (s : Store) (c : Option ℕ) (j : ℕ) : Type 0 where
  pub column : c ≡ Some j
  pub no_word : any_held s.words ≡ false

record FoundInto (s : Store) (n t : ℕ) (c : Option ℕ) (j b : ℕ) : Type 0 where
  pub column : c ≡ None
  pub place_is : j ≡ types_before t (types_of s.decl (archetype_of s n))
  pub target : target_of s.decl (with_type t (types_of s.decl (archetype_of s n))) ≡ some b
  pub passes : granted tt ≡ passing (move_rules s n b)

module _ (s : Store) (n t : ℕ) where
  over_not : (j k : ℕ) (o : math.Option ℕ) → granted (Over j) ≡ way_into s n k o → ⊥
  unfolding way_into
  over_not j k none e = not_refused e
  over_not j k (some x) e = apart (sym (value_of_lem (move_rules s n x) (Into k x) e))

  over_found : (j : ℕ) (c : Option ℕ) → granted (Over j) ≡ way_for s n t c → FoundOver s c j
  unfolding way_for
  over_found j None e = absurd (over_not j _ _ e)
  over_found j (Some k) e =
      let v : Over j ≡ Over k = value_of_lem (8 when any_held s.words ∷ []) (Over k) e in
      let y : j ≡ k = cc in
      record { column = ap Some (sym y); no_word = (none_holds (8 when any_held s.words ∷ []) (passed_all (8 when any_held s.words ∷ []) (granted (Over k)) e).0).0 }

  into_parts : (j b k : ℕ) (o : math.Option ℕ) → granted (Into j b) ≡ way_into s n k o → (j ≡ k) × (o ≡ some b) × (granted tt ≡ passing (move_rules s n b))
  unfolding way_into
  into_parts j b k none e = absurd (not_refused e)
  into_parts j b k (some x) e =
      let v : Into j b ≡ Into k x = value_of_lem (move_rules s n x) (Into k x) e in
      let y : b ≡ x = cc in
      (cc, ap some (sym y), rw y (passed_all (move_rules s n x) (granted (Into k x)) e).0)

  into_found : (j b : ℕ) (c : Option ℕ) → granted (Into j b) ≡ way_for s n t c → FoundInto s n t c j b
  unfolding way_for
  into_found j b (Some k) e = absurd (apart (value_of_lem (8 when any_held s.words ∷ []) (Over k) e))
  into_found j b None e = let f = into_parts j b _ _ e in record { column = refl; place_is = f.0; target = f.1; passes = f.2 }

-- a value of the type's size
pub sized : (d : Decl) (k : Declared d) (a j t m : ℕ) → j < width_of d a → type_of d a j ≡ t → wrong_size d.types d.sizes t m ≡ false → m ≡ size_of d a j
sized d k a j t m h e w =
    sym (size_at d a j h ∙ size_right d k t m (first_column d a + j) (omega (arith, columns_in d a k.shaped, k.shaped.types_long)) (sym (type_at d a j h) ∙ e) w)

-- what bounds the sums and the parts of the code
pub record OverRoom (d : Decl) (span : Span) (j : ℕ) : Type 0 where
  pub small : span.column + j < 256
  pub inside : span.column + j ≤ length d.sizes

pub over_room : (d : Decl) → Kept d → (a : ℕ) (span : Span) → span ≡ span_of d a → (t j : ℕ) → column_of (types_of d a) t ≡ Some j → OverRoom d span j
over_room d k a span p t j c =
    let g = k.declared.shaped in
    let i = held_in d a t j k c in
    let m : span.columns ≡ width_of d a = ap (λ (u : Span). u.columns) p in
    record { small = omega (arith, all_small d g a span p); inside = omega (arith, all_in d g a span p) }

-- the component that is overwritten
module _ (d : Decl) (k : Kept d) (a r : ℕ) (span : Span) (p : span ≡ span_of d a) (t j : ℕ) (c : column_of (types_of d a) t ≡ Some j) where
  cell_there : (declared : a < archetypes d) (row : r < rows_of d a) (rows size : ℕ) → rows ≡ get_or d.rows a 0 → size ≡ get_or d.sizes (span.column + j) 0
      → (here : Line) (start : ℕ) → here ≡ line_told (past_of (line_of span.base rows r) (take ((span.column + j) - span.column) (drop span.column d.sizes)))
      → start ≡ told (cell_of here size) → start ≡ cell_start d a j r
  cell_there declared row rows size x y here start q z =
      let own : List ℕ = take ((span.column + span.columns) - span.column) (drop span.column d.types) in
      let f : searched own t ≡ Some j = column_found d a k span p t (searched own t) refl ∙ c in
      let g = cell_found d a k span p t (searched own t) refl j f r declared row here start (rw x at q) (rw y at z) in
      told_start (rw c at g)
    where
      told_start : {u v : Cell} → granted u ≡ granted v → u.start ≡ v.start
      told_start e = ap (λ (w : Cell). w.start) (same e)
        where
          same : {u v : Cell} → granted u ≡ granted v → u ≡ v
          same q = cc

  pub wrote : (declared : a < archetypes d) (row : r < rows_of d a) (bytes value left : List ℕ) → length bytes ≡ base_of d (archetypes d) → length value ≡ size_of d a j
      → (rows size : ℕ) → rows ≡ get_or d.rows a 0 → size ≡ get_or d.sizes (span.column + j) 0
      → (here : Line) (start : ℕ) → here ≡ line_told (past_of (line_of span.base rows r) (take ((span.column + j) - span.column) (drop span.column d.sizes)))
      → start ≡ told (cell_of here size) → left ≡ written bytes start value → left ≡ put bytes (cell_start d a j r) value
  wrote declared row bytes value left long sized rows size x y here start q z w =
      let e = cell_there declared row rows size x y here start q z in
      w ∙ ap (λ (i : ℕ). written bytes i value) e ∙ written_fits bytes (cell_start d a j r) value (omega (arith, cell_fits d a j r declared row))

-- An insert that has found the row and the way: what the steps ask for, and what they leave.
module _ (s : Store) (bits t : ℕ) (value : List ℕ) (span : Span) (place : Place) (n : ℕ) (f : Placed s bits t value span place n)
    (way : Way) (y : granted way ≡ way_for s n t (column_of (types_of s.decl (archetype_of s n)) t)) where
  abbrev own : ℕ
  own = archetype_of s n

  abbrev held : Option ℕ
  held = column_of (types_of s.decl own) t

  abbrev declares : Declared s.decl
  declares = f.entered.rows.tabled.kept.declared

  mine : Owned s n
  mine = owns_means s n f.own

  -- over a component that is held
  module _ (j : ℕ) (x : way ≡ Over j) where
    over : FoundOver s held j
    over = over_found s n t j held (ap granted (sym x) ∙ y)

    pub over_there : (span ≡ span_of s.decl place.archetype) × (place.archetype < archetypes s.decl) × (place.index.0 < rows_of s.decl place.archetype) × (length s.rows.bytes ≡ base_of s.decl (archetypes s.decl))
    over_there = rw f.place_is (f.span_is, mine.archetype_in, omega (arith, mine.row_in, f.entered.rows.counts_in own), f.entered.rows.tabled.bytes_long)

    pub over_sized : (column_of (types_of s.decl place.archetype) t ≡ Some j) × (length value ≡ size_of s.decl place.archetype j)
    over_sized =
        let h = column_held (types_of s.decl own) t j over.column in
        rw f.place_is (over.column, sized s.decl declares own j t (length value) (column_in s f.entered n span f.span_is t j over.column) h.1 f.right)

    pub is_over : (left : List ℕ) → left ≡ put s.rows.bytes (cell_start s.decl place.archetype j place.index.0) value
        → Did (inserting s bits t value) s (granted tt) (store_of s.decl s.ids (tables_of s.rows.numbers s.rows.counts left) s.words)
    unfolding inserted_at overwritten ◌or_else◌
    is_over left v = via f.rule (rw (over.column, v, f.place_is) (grant (rw over.no_word)))

  -- into the target
  module _ (j b : ℕ) (x : way ≡ Into j b) where
    into : FoundInto s n t held j b
    into = into_found s n t j b held (ap granted (sym x) ∙ y)

    there : (b < archetypes s.decl) × (types_of s.decl b ≡ with_type t (types_of s.decl own))
    there = target_means s.decl _ b into.target

    ok : MoveOk s n b
    ok = move_ok s n b into.passes

    fits : length value ≡ size_of s.decl b (types_before t (types_of s.decl own))
    fits =
        let i = before_in t (types_of s.decl own) in
        sized s.decl declares b (types_before t (types_of s.decl own)) t (length value)
        (omega (arith, i, types_length s.decl declares.shaped own, wider s.decl declares own b mine.archetype_in there.0 t _ i there.1))
        (type_added s.decl declares own b mine.archetype_in there.0 t _ i there.1) f.right

    pub may_move : Moving s.decl s.rows place.archetype place.index.0 b
    may_move = rw f.place_is (moving s n b f.entered mine there.0 ok)

    pub from_there : (span ≡ span_of s.decl place.archetype) × (j ≡ types_before t (types_of s.decl place.archetype))
    from_there = rw f.place_is (f.span_is, into.place_is)

    pub to_there : (types_of s.decl b ≡ with_type t (types_of s.decl place.archetype)) × (length value ≡ size_of s.decl b (types_before t (types_of s.decl place.archetype)))
    to_there = rw f.place_is (there.1, fits)

    pub has_come : (archetypes indices : List ℕ) (w : Rows)
        → seats_of archetypes indices w
        ≡ moved_seats (block_in s.decl place.archetype) (sizes_of s.decl place.archetype) (block_in s.decl b) (sizes_of s.decl b) (seats_of s.ids.archetypes s.ids.indices s.rows) place.archetype place.index.0 b n
        (run_with s.decl s.rows place.archetype place.index.0 t value)
        → Did (inserting s bits t value) s (granted tt) (store_of s.decl (ids_of s.ids.head s.ids.generations archetypes indices s.ids.pending) w s.words)
    unfolding inserted_at
    has_come archetypes indices w v =
        let run : List ℕ = run_with s.decl s.rows own (row_of s n) t value in
        let moved = has_moved s n b run mine.row_in (f.entered.rows.counts_in own) ok.row_unused
        (with_differs s.decl declares own b mine.archetype_in there.0 t _ (before_in t (types_of s.decl own)) there.1)
        archetypes indices w (rw f.place_is at v) in
        via f.rule (rw (into.column, moved) (grant (ap (λ (o : math.Option ℕ). moved_into s n o run) into.target ∙ into_granted s n run b into.passes)))
