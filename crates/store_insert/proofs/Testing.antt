-- The ways through the tests of an insert, over plain values.
-- Assumes nothing.
use Prim.{tt}
use Prim.Native.Nat.{ℕ}
use mathlib.Core.Path.{◌≡◌, sym, ap, ◌∙◌}
use mathlib.Core.Bool.{true, false}
use mathlib.Core.List.{List}
use Rattle.std.proofs.Math.Option.{some}
use Rattle.std.specs.Prelude.{Option, Some, None}
use Rattle.refusal.specs.Table.{Rule, granted, refused, ◌or_else◌, passing}
use Rattle.refusal.specs.Laws.{halted, past}
use Rattle.handle.specs.declared.Place.{Place}
use Rattle.borrow_word.specs.Slice.{any_held}
use Rattle.id_tables.specs.Ids.{place_at}
use Rattle.decl.specs.Decl.{types_of}
use Rattle.decl.specs.Places.{span_of}
use Rattle.decl.specs.Lookup.{column_of, searched}
use Rattle.decl.specs.declared.Span.{Span}
use Rattle.store_steps.specs.Parts.{part_by}
use Rattle.store_tables.specs.Store.{Store}
use Rattle.store_tables.specs.Rows.{archetype_of}
use Rattle.store_tables.specs.Kept.{Entered}
use Rattle.store_moves.specs.declared.target.Change.TheVariants.{Added}
use Rattle.store_moves.specs.Target.{types_before, changed, target_of, target_found}
use Rattle.store_moves.specs.Moves.{move_rules}
use Rattle.store_moves.specs.Steps.{move_seen}
use Rattle.store_moves.proofs.Passing.{move_told}
use Rattle.store_moves.proofs.Owning.{own_is, column_found, found_none, found_some}
use Rattle.store_insert.specs.declared.Way.TheVariants.{Over, Into}
use Rattle.store_insert.specs.Seen.{way_into, way_for}

module _ (s : Store) (e : Entered s) (n : ℕ) (span : Span) (p : span ≡ span_of s.decl (archetype_of s n))
    (own : List ℕ) (o : own ≡ part_by s.decl.types span) (t : ℕ) (c : Option ℕ) (f : c ≡ searched own t) where
  abbrev at : Option ℕ
  at = column_of (types_of s.decl (archetype_of s n)) t

  -- the type is held
  module _ (j : ℕ) (x : c ≡ Some j) where
    pub held : any_held s.words ≡ true → refused 8 ≡ way_for s n t at
    unfolding way_for ◌or_else◌
    held w = rw (← column_found s e n span p own o t c f, x, w)

    pub over : any_held s.words ≡ false → granted (Over j) ≡ way_for s n t at
    unfolding way_for ◌or_else◌
    over w = rw (← column_found s e n span p own o t c f, x, w)

  -- it is not
  module _ (x : c ≡ None) (k : ℕ) (y : k ≡ types_before t own) (r : Option ℕ) (g : target_found r ≡ target_of s.decl (changed (Added t) k own)) where
    place_is : k ≡ types_before t (types_of s.decl (archetype_of s n))
    place_is = y ∙ ap (types_before t) (own_is s e n span p own o)

    missed : way_for s n t at ≡ way_into s n k (target_of s.decl (changed (Added t) k (types_of s.decl (archetype_of s n))))
    unfolding way_for
    missed = rw (← column_found s e n span p own o t c f, x, place_is)

    pub no_target : r ≡ None → refused 14 ≡ way_for s n t at
    unfolding way_into
    no_target z = sym (missed ∙ ap (way_into s n k) (found_none s e n span p own o (Added t) k r g z))

    module _ (b : ℕ) (z : r ≡ Some b) (place : Place) (q : place ≡ place_at s.ids n) where
      into : way_for s n t at ≡ way_into s n k (some b)
      into = missed ∙ ap (way_into s n k) (found_some s e n span p own o (Added t) k r g b z)

      abbrev seen : List Rule
      seen = move_seen s span.row place.archetype place.index.0 b

      pub cannot : {m : ℕ} → refused m ≡ passing seen → refused m ≡ way_for s n t at
      unfolding way_into
      cannot u = sym (into ∙ halted (move_rules s n b) _ (u ∙ ap (λ (l : List Rule). passing l) (move_told s n b span place p q)))

      pub goes : granted tt ≡ passing seen → granted (Into k b) ≡ way_for s n t at
      unfolding way_into
      goes u = sym (into ∙ past (move_rules s n b) _ (u ∙ ap (λ (l : List Rule). passing l) (move_told s n b span place p q)))
