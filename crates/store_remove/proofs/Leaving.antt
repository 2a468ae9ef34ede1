-- A remove whose tests have passed: the row has moved without the component.
-- Assumes nothing.
use Prim.{tt}
use Prim.Native.Nat.{ℕ, ◌<◌}
use mathlib.Core.Path.{◌≡◌, sym, ap, ◌∙◌}
use mathlib.Core.List.{List}
use Rattle.std.proofs.Math.Option.{none, some}
use Rattle.std.proofs.Math.Option as math
use Rattle.std.specs.Prelude.{Option, Some, None}
use Rattle.refusal.specs.Table.{Answer, granted, refused, passing, Did}
use Rattle.refusal.specs.Laws.{not_refused, grant, via, passed_all, value_of_lem, stops}
use Rattle.handle.specs.declared.Place.{Place}
use Rattle.id_tables.specs.Ids.{ids_of}
use Rattle.decl.specs.Decl.{archetypes, width_of, types_of, sizes_of}
use Rattle.decl.specs.Lookup.{column_of}
use Rattle.decl.specs.Places.{span_of}
use Rattle.decl.specs.declared.Span.{Span}
use Rattle.row_step.specs.Tables.{Rows}
use Rattle.column_entry.specs.Entry.{block_in}
use Rattle.store_steps.specs.Seats.{seats_of}
use Rattle.store_tables.specs.Store.{Store, store_of}
use Rattle.store_tables.specs.Rows.{archetype_of, row_of}
use Rattle.store_tables.proofs.Places.{Owned, owns_means}
use Rattle.store_moves.specs.Target.{target_of, without_type}
use Rattle.store_moves.specs.Moves.{move_rules, run_without, moved_into}
use Rattle.store_moves.specs.Steps.{moved_seats}
use Rattle.store_moves.specs.Kept.{Moving}
use Rattle.store_moves.proofs.Seeking.{target_means}
use Rattle.store_moves.proofs.Targets.{without_differs}
use Rattle.store_moves.proofs.Passing.{MoveOk, move_ok, into_none, into_refused, into_granted}
use Rattle.store_moves.proofs.Moving.{has_moved}
use Rattle.store_moves.proofs.Owning.{column_in, moving}
use Rattle.store_remove.specs.declared.Way.{Way}
use Rattle.store_remove.specs.Remove.{removed_at, removing}
use Rattle.store_remove.specs.Seen.{way_into, way_for, Placed}

-- they refuse as the rule does
same_number : {A : Type 0} {m k : ℕ} → ◌≡◌ {A = Answer A} (refused m) (refused k) → m ≡ k
same_number e = cc

module _ (s : Store) (n : ℕ) where
  into_stays : {m : ℕ} (j : ℕ) (o : math.Option ℕ) (run : List ℕ) → refused m ≡ way_into s n j o → moved_into s n o run ≡ refused m
  unfolding way_into
  into_stays j none run e = into_none s n run ∙ ap (λ (k : ℕ). refused k) (sym (same_number e))
  into_stays j (some b) run e = into_refused s n run b (sym (stops (move_rules s n b) (record { column = j; target = b }) (granted tt) e))

  pub stays : {m : ℕ} (c : Option ℕ) → refused m ≡ way_for s n c → removed_at s n c ≡ refused m
  unfolding way_for removed_at
  stays None e = ap (λ (k : ℕ). refused k) (sym (same_number e))
  stays (Some j) e = into_stays j _ _ e

-- and what they find when they pass
record Found (s : Store) (n : ℕ) (c : Option ℕ) (way : Way) : Type 0 where
  pub column : c ≡ Some way.column
  pub target : target_of s.decl (without_type way.column (types_of s.decl (archetype_of s n))) ≡ some way.target
  pub passes : granted tt ≡ passing (move_rules s n way.target)

module _ (s : Store) (n : ℕ) (way : Way) where
  into_found : (k : ℕ) (o : math.Option ℕ) → granted way ≡ way_into s n k o → (way.column ≡ k) × (o ≡ some way.target) × (granted tt ≡ passing (move_rules s n way.target))
  unfolding way_into
  into_found k none e = absurd (not_refused e)
  into_found k (some x) e =
      let v : way ≡ record { column = k; target = x } = value_of_lem (move_rules s n x) (record { column = k; target = x }) e in
      let y : way.target ≡ x = ap (λ (w : Way). w.target) v in
      (ap (λ (w : Way). w.column) v, ap some (sym y), rw y (passed_all (move_rules s n x) (granted (record { column = k; target = x })) e).0)

  way_found : (c : Option ℕ) → granted way ≡ way_for s n c → Found s n c way
  unfolding way_for
  way_found None e = absurd (not_refused e)
  way_found (Some k) e =
      let f = into_found k _ e in
      record { column = ap Some (sym f.0); target = rw f.0 f.1; passes = f.2 }

-- A remove that has found the row and the way: what the step asks for, and what it leaves.
module _ (s : Store) (bits t : ℕ) (span : Span) (place : Place) (n : ℕ) (f : Placed s bits t span place n)
    (way : Way) (y : granted way ≡ way_for s n (column_of (types_of s.decl (archetype_of s n)) t)) where
  abbrev own : ℕ
  own = archetype_of s n

  go : Found s n (column_of (types_of s.decl own) t) way
  go = way_found s n way (column_of (types_of s.decl own) t) y

  mine : Owned s n
  mine = owns_means s n f.own

  there : (way.target < archetypes s.decl) × (types_of s.decl way.target ≡ without_type way.column (types_of s.decl own))
  there = target_means s.decl _ way.target go.target

  ok : MoveOk s n way.target
  ok = move_ok s n way.target go.passes

  wide : way.column < width_of s.decl own
  wide = column_in s f.entered n span f.span_is t way.column go.column

  pub may_move : Moving s.decl s.rows place.archetype place.index.0 way.target
  may_move = rw f.place_is (moving s n way.target f.entered mine there.0 ok)

  pub from_there : (span ≡ span_of s.decl place.archetype) × (way.column < width_of s.decl place.archetype) × (types_of s.decl way.target ≡ without_type way.column (types_of s.decl place.archetype))
  from_there = rw f.place_is (f.span_is, wide, there.1)

  pub has_left : (archetypes indices : List ℕ) (w : Rows)
      → seats_of archetypes indices w
      ≡ moved_seats (block_in s.decl place.archetype) (sizes_of s.decl place.archetype) (block_in s.decl way.target) (sizes_of s.decl way.target) (seats_of s.ids.archetypes s.ids.indices s.rows) place.archetype place.index.0 way.target n
      (run_without s.decl s.rows place.archetype place.index.0 way.column)
      → Did (removing s bits t) s (granted tt) (store_of s.decl (ids_of s.ids.head s.ids.generations archetypes indices s.ids.pending) w s.words)
  unfolding removed_at
  has_left archetypes indices w v =
      let run : List ℕ = run_without s.decl s.rows own (row_of s n) way.column in
      let moved = has_moved s n way.target run mine.row_in (f.entered.rows.counts_in own) ok.row_unused
      (without_differs s.decl f.entered.rows.tabled.kept.declared own way.target mine.archetype_in there.0 way.column wide there.1)
      archetypes indices w (rw f.place_is at v) in
      via f.rule (rw (go.column, moved) (grant (ap (λ (x : math.Option ℕ). moved_into s n x run) go.target ∙ into_granted s n run way.target go.passes)))
