-- The contracts determine the results and what is left of everything lent: no second result fits. One instance a function, under its name.
-- Assumes nothing.
use Prim.{Unit}
use Prim.Native.Nat.{ℕ}
use mathlib.Core.Path.{◌≡◌, sym, ap, ◌∙◌}
use mathlib.Core.List.{List}
use lib.ListN.{get_or}
use Rattle.std.specs.Prelude.{Option, Some, None, Result}
use Rattle.refusal.specs.Table.{answer_of, passing}
use Rattle.refusal.specs.Laws.{sole_answer}
use Rattle.refusal.specs.Distinct.{tells}
use Rattle.refusal.specs.declared.Refusal.{Refusal}
use Rattle.handle.specs.declared.Place.{Place}
use Rattle.decl.specs.Decl.{Decl}
use Rattle.decl.specs.declared.Span.{Span}
use Rattle.cells.specs.Line.{line_of}
use Rattle.store_steps.specs.Parts.{block_by, part_by}
use Rattle.store_steps.specs.Seats.{Seats}
use Rattle.store_tables.specs.Store.{Store}
use Rattle.store_moves.specs.declared.target.Change.{Change}
use Rattle.store_moves.specs.Target.{types_before, changed, target_of, target_found}
use Rattle.store_moves.specs.Steps.{move_seen, gathered, moved_seats}

target_tells : (r r' : Option ℕ) → target_found r ≡ target_found r' → r ≡ r'
target_tells (Some a) (Some b) e = ap Some (cc)
target_tells (Some a) None e = cc
target_tells None (Some b) e = cc
target_tells None None e = cc

pub types_before_lem : (t : ℕ) (types : List ℕ) (r r' : ℕ) → r ≡ types_before t types → r' ≡ types_before t types → r ≡ r'
types_before_lem t types r r' d e = d ∙ sym e

pub target_of_lem : (d : Decl) (own : List ℕ) (place : ℕ) (change : Change) (r r' : Option ℕ) → target_found r ≡ target_of d (changed change place own)
    → target_found r' ≡ target_of d (changed change place own) → r ≡ r'
target_of_lem d own place change r r' p q = target_tells r r' (p ∙ sym q)

pub move_tested : (s : Store) (first a row b : ℕ) (r r' : Result (Unit {0}) Refusal) → answer_of r ≡ passing (move_seen s first a row b)
    → answer_of r' ≡ passing (move_seen s first a row b) → r ≡ r'
move_tested s first a row b r r' p q = sole_answer answer_of tells r r' p q

pub gather : (out b rows sizes : List ℕ) (span : Span) (place : Place) (column past size : ℕ) (value left left' : List ℕ)
    → left ≡ gathered out b (line_of span.base (get_or rows place.archetype 0) place.index.0) (part_by sizes span) column past size value
    → left' ≡ gathered out b (line_of span.base (get_or rows place.archetype 0) place.index.0) (part_by sizes span) column past size value → left ≡ left'
gather out b rows sizes span place column past size value left left' p q = p ∙ sym q

pub move_row : (rows sizes : List ℕ) (here there : Span) (t : Seats) (a r b n : ℕ) (run : List ℕ) (left left' : Seats)
    → left ≡ moved_seats (block_by rows here a) (part_by sizes here) (block_by rows there b) (part_by sizes there) t a r b n run
    → left' ≡ moved_seats (block_by rows here a) (part_by sizes here) (block_by rows there b) (part_by sizes there) t a r b n run → left ≡ left'
move_row rows sizes here there t a r b n run left left' p q = p ∙ sym q
