-- The contracts determine the result and what is left of everything lent: no second result fits. One instance a function, under its name.
-- Of a view of the tables they determine what it reads: its head, and the lists behind its slices.
-- Assumes nothing.
use Prim.{Unit}
use Prim.Native.Nat.{ℕ}
use mathlib.Core.Path.{◌≡◌, refl, sym, ap, ◌∙◌}
use mathlib.Core.List.{List}
use Rattle.std.specs.Prelude.{Result, Ok, Err, Some, None, Option}
use Rattle.refusal.specs.declared.Refusal.{Refusal}
use Rattle.refusal.specs.Table.{Did, answer_of, answer_by}
use Rattle.refusal.specs.Laws.{determined, sole}
use Rattle.refusal.specs.Distinct.{number_inj, tells}
use Rattle.handle.specs.declared.Number.{Number}
use Rattle.handle.specs.RoundTrip.{same_number}
use Rattle.id_tables.specs.declared.head.Head.{Head}
use Rattle.id_tables.specs.Ids.{Ids, ids_of}
use Rattle.id_batches.specs.declared.many.AllocManyState.{AllocManyState}
use Rattle.id_batches.specs.Reserve.{reserving}
use Rattle.id_batches.specs.Freelist.{listing}
use Rattle.id_batches.specs.Flush.{flushing}
use Rattle.id_batches.specs.AllocMany.{allocating_many, walking, walked_of, state_after, left_in}

-- the document's answer, with the state that it leaves, is that of one result
walked_tells : (w : AllocManyState) (r s : Result (Option (Number × AllocManyState)) Refusal) → answer_by walked_of r ≡ answer_by walked_of s → state_after w r ≡ state_after w s → r ≡ s
walked_tells w (Ok (Some x)) (Ok (Some y)) e l = let q : x.0 ≡ y.0 = same_number x.0 y.0 (cc) in λ i. Ok (Some (q i, l i))
walked_tells w (Ok (Some x)) (Ok None) e l = cc
walked_tells w (Ok (Some x)) (Err y) e l = cc
walked_tells w (Ok None) (Ok (Some y)) e l = cc
walked_tells w (Ok None) (Ok None) e l = refl
walked_tells w (Ok None) (Err y) e l = cc
walked_tells w (Err x) (Ok (Some y)) e l = cc
walked_tells w (Err x) (Ok None) e l = cc
walked_tells w (Err x) (Err y) e l = ap Err (number_inj x y (cc))

module _ (s : Ids) where
  pub reserve_entities_lem : (n : ℕ) (out : List ℕ) (r r' : Result (Unit {0}) Refusal) (t t' : Ids) (o o' : List ℕ) → Did (reserving s n out) (s, out) (answer_of r) (t, o)
      → Did (reserving s n out) (s, out) (answer_of r') (t', o') → (r ≡ r') × (t ≡ t') × (o ≡ o')
  reserve_entities_lem n out r r' t t' o o' d e =
      let p = sole answer_of tells r r' d e in (p.0, ap (λ (u : Ids × List ℕ). u.0) p.1, ap (λ (u : Ids × List ℕ). u.1) p.1)

  pub freelist : (out : List ℕ) (r r' : Result ℕ Refusal) (o o' : List ℕ) → Did (listing s out) out (answer_of r) o → Did (listing s out) out (answer_of r') o' → (r ≡ r') × (o ≡ o')
  freelist out r r' o o' d e = sole answer_of tells r r' d e

  module _ (h h' : Head) (g a x g' a' x' : List ℕ) where
    abbrev left : Ids
    left = ids_of h g a x s.pending

    abbrev left' : Ids
    left' = ids_of h' g' a' x' s.pending

    abbrev same : Type 0
    same = (h ≡ h') × (g ≡ g') × (a ≡ a') × (x ≡ x')

    tables : left ≡ left' → same
    tables e = (ap (λ (t : Ids). t.head) e, ap (λ (t : Ids). t.generations) e, ap (λ (t : Ids). t.archetypes) e, ap (λ (t : Ids). t.indices) e)

    pub flush : (archetype first : ℕ) (r r' : Result (Unit {0}) Refusal) → Did (flushing s archetype first) s (answer_of r) left → Did (flushing s archetype first) s (answer_of r') left' → (r ≡ r') × same
    flush archetype first r r' d e = let p = sole answer_of tells r r' d e in (p.0, tables p.1)

    pub alloc_many : (n archetype first : ℕ) (r r' : Result AllocManyState Refusal) → Did (allocating_many s n archetype first) s (answer_of r) left
        → Did (allocating_many s n archetype first) s (answer_of r') left' → (r ≡ r') × same
    alloc_many n archetype first r r' d e = let p = sole answer_of tells r r' d e in (p.0, tables p.1)

-- the state of an alloc many
module _ (w : AllocManyState) where
  pub next : (pending : List ℕ) (r r' : Result (Option (Number × AllocManyState)) Refusal) → Did (walking w pending) w (answer_by walked_of r) (state_after w r)
      → Did (walking w pending) w (answer_by walked_of r') (state_after w r') → r ≡ r'
  next pending r r' d e = let p = determined d e in walked_tells w r r' p.0 p.1

  pub len : (r r' : ℕ) → r ≡ left_in w → r' ≡ left_in w → r ≡ r'
  len r r' d e = d ∙ sym e
