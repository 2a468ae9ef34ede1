-- An entity's own types as they are lent, what a search finds in them, and the target of a change of them.
-- Assumes nothing.
use Prim.Native.Nat.{ℕ, ◌≤◌, ◌<◌}
use native.Mathlib.Omega.{arith}
use mathlib.Core.List.{List}
use Rattle.std.proofs.Math.Option.{none, some}
use Rattle.std.specs.Prelude.{Option, Some, None}
use mathlib.Core.Path.{◌≡◌, sym, ap, ◌∙◌}
use Rattle.decl.specs.Decl.{archetypes, width_of, types_of}
use Rattle.decl.specs.Places.{span_of}
use Rattle.decl.specs.Lookup.{column_of, searched}
use Rattle.decl.specs.Kept.{Declared}
use Rattle.decl.specs.declared.Span.{Span}
use Rattle.decl.proofs.Keeping.{types_length}
use Rattle.decl.proofs.Looking.{found_in}
use Rattle.decl.proofs.Search.{column_held}
use Rattle.store_steps.proofs.Laws.{types_by}
use Rattle.store_steps.specs.Parts.{part_by}
use Rattle.store_tables.specs.Store.{Store}
use Rattle.store_tables.specs.Rows.{archetype_of, row_of}
use Rattle.store_tables.specs.Kept.{Entered}
use Rattle.store_tables.proofs.Places.{Owned}
use Rattle.store_moves.specs.declared.target.Change.{Change}
use Rattle.store_moves.specs.Target.{changed, target_of, target_found}
use Rattle.store_moves.specs.Kept.{Moving}
use Rattle.store_moves.proofs.Seeking.{target_means}
use Rattle.store_moves.proofs.Passing.{MoveOk}

module _ (s : Store) (e : Entered s) (n : ℕ) (span : Span) (p : span ≡ span_of s.decl (archetype_of s n)) where
  abbrev declares : Declared s.decl
  declares = e.rows.tabled.kept.declared

  pub column_in : (t j : ℕ) → column_of (types_of s.decl (archetype_of s n)) t ≡ Some j → j < width_of s.decl (archetype_of s n)
  column_in t j q = omega (arith, (column_held (types_of s.decl (archetype_of s n)) t j q).0, types_length s.decl declares.shaped (archetype_of s n))

  module _ (own : List ℕ) (o : own ≡ part_by s.decl.types span) where
    pub own_is : own ≡ types_of s.decl (archetype_of s n)
    own_is = o ∙ types_by s.decl (archetype_of s n) span p

    -- the column of a type
    pub column_found : (t : ℕ) (c : Option ℕ) → c ≡ searched own t → c ≡ column_of (types_of s.decl (archetype_of s n)) t
    column_found t c q = q ∙ ap (λ (xs : List ℕ). searched xs t) own_is ∙ found_in s.decl declares (archetype_of s n) t

    -- the target
    module _ (change : Change) (at : ℕ) (r : Option ℕ) (f : target_found r ≡ target_of s.decl (changed change at own)) where
      found : target_found r ≡ target_of s.decl (changed change at (types_of s.decl (archetype_of s n)))
      found = f ∙ ap (λ (xs : List ℕ). target_of s.decl (changed change at xs)) own_is

      pub found_none : r ≡ None → target_of s.decl (changed change at (types_of s.decl (archetype_of s n))) ≡ none
      found_none q = sym found ∙ ap target_found q

      pub found_some : (b : ℕ) → r ≡ Some b → target_of s.decl (changed change at (types_of s.decl (archetype_of s n))) ≡ some b
      found_some b q = sym found ∙ ap target_found q

      pub found_small : (b : ℕ) → r ≡ Some b → b ≤ 16
      found_small b q = omega (arith, (target_means s.decl _ b (found_some b q)).0, declares.shaped.few)

-- a row that may move
pub moving : (s : Store) (n b : ℕ) → Entered s → Owned s n → b < archetypes s.decl → MoveOk s n b → Moving s.decl s.rows (archetype_of s n) (row_of s n) b
moving s n b e o h k = record { ready = e.rows; here = o.archetype_in; there = h; row_in = o.row_in; row_unused = k.row_unused }
