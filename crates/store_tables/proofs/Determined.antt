-- The contracts determine the results: no second one fits. One instance a function, under its name.
-- Assumes nothing.
use Prim.Native.Nat.{ℕ}
use mathlib.Core.Bool.{Bool, not, ◌&&◌}
use mathlib.Core.Path.{◌≡◌, sym, ap, ◌∙◌}
use mathlib.Core.List.{List}
use lib.Dec.{ltb, eqb}
use Prim.{Unit}
use Rattle.std.specs.Prelude.{Option, Some, None}
use Rattle.std.specs.Prelude.{Result}
use Rattle.refusal.specs.Table.{answer_of, passing}
use Rattle.refusal.specs.Laws.{sole_answer}
use Rattle.refusal.specs.Distinct.{tells}
use Rattle.refusal.specs.declared.Refusal.{Refusal}
use Rattle.handle.specs.declared.Place.{Place}
use Rattle.id_tables.specs.Ids.{Ids}
use Rattle.decl.specs.Decl.{Decl}
use Rattle.decl.specs.declared.Span.{Span}
use Rattle.store_tables.specs.Store.{Store, entry}
use Rattle.store_tables.specs.Seen.{own_seen, own_of, moved_seen, entity_seen}

own_tells : (r s : Option Span) → own_of r ≡ own_of s → r ≡ s
own_tells (Some a) (Some b) e = ap Some (cc)
own_tells (Some a) None e = cc
own_tells None (Some b) e = cc
own_tells None None e = cc

pub tested : (s : Store) (short : Bool) (r r' : Result (Unit {0}) Refusal) → answer_of r ≡ passing (entry s short) → answer_of r' ≡ passing (entry s short) → r ≡ r'
tested s short r r' d e = sole_answer answer_of tells r r' d e

pub own_place : (d : Decl) (numbers counts : List ℕ) (a row n : ℕ) (r r' : Option Span) → own_of r ≡ own_seen d numbers counts a row n → own_of r' ≡ own_seen d numbers counts a row n → r ≡ r'
own_place d numbers counts a row n r r' p q = own_tells r r' (p ∙ sym q)

pub entity_at : (d : Decl) (i : Ids) (numbers counts : List ℕ) (g n : ℕ) (r r' : Result (Span × Place) Refusal)
    → answer_of r ≡ entity_seen d i numbers counts g n → answer_of r' ≡ entity_seen d i numbers counts g n → r ≡ r'
entity_at d i numbers counts g n r r' p q = sole_answer answer_of tells r r' p q

pub is_moved_damaged : (first used : ℕ) (archetypes indices numbers counts : List ℕ) (a row : ℕ) (r r' : Bool)
    → r ≡ moved_seen first used archetypes indices numbers counts a row → r' ≡ moved_seen first used archetypes indices numbers counts a row → r ≡ r'
is_moved_damaged first used archetypes indices numbers counts a row r r' p q = p ∙ sym q

pub is_run_wrong : (declared a run width : ℕ) (r r' : Bool) → r ≡ (ltb a declared && not (eqb run width)) → r' ≡ (ltb a declared && not (eqb run width)) → r ≡ r'
is_run_wrong declared a run width r r' p q = p ∙ sym q
