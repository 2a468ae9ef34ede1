-- The contracts determine the result, and the head and the tables that are left: no second result fits. One instance a function, under its name.
-- Assumes nothing.
use Prim.Native.Nat.{ℕ}
use mathlib.Core.Path.{◌≡◌, sym, ap, ◌∙◌}
use mathlib.Core.Bool.{Bool}
use mathlib.Core.List.{List}
use Rattle.std.specs.Prelude.{Option, Some, None, Result}
use Rattle.refusal.specs.Table.{Answer, answer_of, Did}
use Rattle.refusal.specs.Laws.{sole}
use Rattle.refusal.specs.Distinct.{tells, tells_by}
use Rattle.refusal.specs.declared.Refusal.{Refusal}
use Rattle.handle.specs.Bits.{handle_of}
use Rattle.handle.specs.RoundTrip as handle
use Rattle.handle.specs.declared.Place.{Place}
use Rattle.id_tables.specs.declared.head.Head.{Head}
use Rattle.id_tables.specs.Ids.{Ids, ids_of}
use Rattle.ids.specs.Answers.{place_was, chosen_of}
use Rattle.ids.specs.Reserve.{reserving}
use Rattle.ids.specs.Alloc.{allocating}
use Rattle.ids.specs.AllocAt.{is_pending, allocating_at}
use Rattle.ids.specs.Free.{freeing}

-- the rule's option names the program's
same_was : (v w : Option Place) → place_was v ≡ place_was w → v ≡ w
same_was (Some v) (Some w) e = ap Some (cc)
same_was (Some v) None e = cc
same_was None (Some w) e = cc
same_was None None e = cc

pub chosen_tells : (r r' : Result (Option Place) Refusal) → chosen_of r ≡ chosen_of r' → r ≡ r'
chosen_tells = tells_by place_was same_was

-- one result, one head and one set of tables for what is lent
abbrev One : {A R : Type 0} → (R → Answer A) → Answer (A × Ids) → Ids → Type 0
One {R = R} answer rule s =
    (r r' : R) (h : Head) (g a x p : List ℕ) (h' : Head) (g' a' x' p' : List ℕ) → Did rule s (answer r) (ids_of h g a x p)
    → Did rule s (answer r') (ids_of h' g' a' x' p') → (r ≡ r') × (h ≡ h') × (g ≡ g') × (a ≡ a') × (x ≡ x') × (p ≡ p')

one : {A R : Type 0} (answer : R → Answer A) (rule : Answer (A × Ids)) (s : Ids) → ((r r' : R) → answer r ≡ answer r' → r ≡ r') → One answer rule s
one answer rule s told r r' h g a x p h' g' a' x' p' d e =
    let q = sole answer told r r' d e in
    (q.0, ap (λ (t : Ids). t.head) q.1, ap (λ (t : Ids). t.generations) q.1, ap (λ (t : Ids). t.archetypes) q.1, ap (λ (t : Ids). t.indices) q.1, ap (λ (t : Ids). t.pending) q.1)

pub reserve_entity_lem : (s : Ids) → One handle_of (reserving s) s
reserve_entity_lem s = one handle_of (reserving s) s handle.tells

pub alloc : (s : Ids) (place : Place) → One handle_of (allocating s place) s
alloc s place = one handle_of (allocating s place) s handle.tells

pub alloc_at : (s : Ids) (bits : ℕ) (place : Place) → One chosen_of (allocating_at s bits place) s
alloc_at s bits place = one chosen_of (allocating_at s bits place) s chosen_tells

pub free : (s : Ids) (bits : ℕ) → One answer_of (freeing s bits) s
free s bits = one answer_of (freeing s bits) s tells

pub is_pending_lem : (s : Ids) (n : ℕ) (r r' : Bool) → r ≡ is_pending s n → r' ≡ is_pending s n → r ≡ r'
is_pending_lem s n r r' p q = p ∙ sym q
