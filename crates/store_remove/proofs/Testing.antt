-- The ways through the tests of a remove, over plain values.
-- Assumes nothing.
use Prim.{tt}
use Prim.Native.Nat.{ℕ}
use mathlib.Core.Path.{◌≡◌, sym, ap, ◌∙◌}
use mathlib.Core.List.{List}
use Rattle.std.proofs.Math.Option.{some}
use Rattle.std.specs.Prelude.{Option, Some, None}
use Rattle.refusal.specs.Table.{Rule, granted, refused, passing}
use Rattle.refusal.specs.Laws.{halted, past}
use Rattle.handle.specs.declared.Place.{Place}
use Rattle.id_tables.specs.Ids.{place_at}
use Rattle.decl.specs.Decl.{types_of}
use Rattle.decl.specs.Places.{span_of}
use Rattle.decl.specs.Lookup.{column_of, searched}
use Rattle.decl.specs.declared.Span.{Span}
use Rattle.store_steps.specs.Parts.{part_by}
use Rattle.store_tables.specs.Store.{Store}
use Rattle.store_tables.specs.Rows.{archetype_of}
use Rattle.store_tables.specs.Kept.{Entered}
use Rattle.store_moves.specs.declared.target.Change.TheVariants.{Taken}
use Rattle.store_moves.specs.Target.{changed, target_of, target_found}
use Rattle.store_moves.specs.Moves.{move_rules}
use Rattle.store_moves.specs.Steps.{move_seen}
use Rattle.store_moves.proofs.Passing.{move_told}
use Rattle.store_moves.proofs.Owning.{column_found, found_none, found_some}
use Rattle.store_remove.specs.Seen.{way_into, way_for}

module _ (s : Store) (e : Entered s) (n : ℕ) (span : Span) (p : span ≡ span_of s.decl (archetype_of s n)) (place : Place) (q : place ≡ place_at s.ids n)
    (own : List ℕ) (o : own ≡ part_by s.decl.types span) (t : ℕ) (c : Option ℕ) (f : c ≡ searched own t) where
  abbrev at : Option ℕ
  at = column_of (types_of s.decl (archetype_of s n)) t

  pub not_held : c ≡ None → refused 15 ≡ way_for s n at
  unfolding way_for
  not_held x = rw (← column_found s e n span p own o t c f, x)

  module _ (j : ℕ) (x : c ≡ Some j) (r : Option ℕ) (g : target_found r ≡ target_of s.decl (changed Taken j own)) where
    held : way_for s n at ≡ way_into s n j (target_of s.decl (changed Taken j (types_of s.decl (archetype_of s n))))
    unfolding way_for
    held = rw (← column_found s e n span p own o t c f, x)

    pub no_target : r ≡ None → refused 14 ≡ way_for s n at
    unfolding way_into
    no_target y = sym (held ∙ ap (way_into s n j) (found_none s e n span p own o Taken j r g y))

    module _ (b : ℕ) (y : r ≡ Some b) where
      into : way_for s n at ≡ way_into s n j (some b)
      into = held ∙ ap (way_into s n j) (found_some s e n span p own o Taken j r g b y)

      abbrev seen : List Rule
      seen = move_seen s span.row place.archetype place.index.0 b

      pub cannot : {m : ℕ} → refused m ≡ passing seen → refused m ≡ way_for s n at
      unfolding way_into
      cannot z = sym (into ∙ halted (move_rules s n b) _ (z ∙ ap (λ (l : List Rule). passing l) (move_told s n b span place p q)))

      pub goes : granted tt ≡ passing seen → granted (record { column = j; target = b }) ≡ way_for s n at
      unfolding way_into
      goes z = sym (into ∙ past (move_rules s n b) _ (z ∙ ap (λ (l : List Rule). passing l) (move_told s n b span place p q)))
