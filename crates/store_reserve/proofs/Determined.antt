-- The contracts determine the results, the store and what is left of the output: no second result fits. One instance a function, under its name.
-- Assumes nothing.
use Prim.{Unit}
use Prim.Native.Nat.{ℕ}
use mathlib.Core.Path.{◌≡◌, ap}
use mathlib.Core.List.{List}
use Rattle.std.specs.Prelude.{Result}
use Rattle.refusal.specs.Table.{answer_of, Did}
use Rattle.refusal.specs.Laws.{sole}
use Rattle.refusal.specs.Distinct.{tells}
use Rattle.refusal.specs.declared.Refusal.{Refusal}
use Rattle.handle.specs.Bits.{handle_of}
use Rattle.handle.specs.RoundTrip as handle
use Rattle.handle.specs.declared.Handle.{Handle}
use Rattle.store_tables.specs.Store.{Store}
use Rattle.store_reserve.specs.Reserve.{reserving, reserving_many, listing_free}

module _ (s : Store) where
  pub reserve_entity_lem : (r r' : Result Handle Refusal) (t t' : Store) → Did (reserving s) s (handle_of r) t → Did (reserving s) s (handle_of r') t' → (r ≡ r') × (t ≡ t')
  reserve_entity_lem r r' t t' d e = sole handle_of handle.tells r r' d e

  pub reserve_entities_lem : (n : ℕ) (out : List ℕ) (r r' : Result (Unit {0}) Refusal) (t t' : Store) (o o' : List ℕ) → Did (reserving_many s n out) (s, out) (answer_of r) (t, o)
      → Did (reserving_many s n out) (s, out) (answer_of r') (t', o') → (r ≡ r') × (t ≡ t') × (o ≡ o')
  reserve_entities_lem n out r r' t t' o o' d e =
      let q = sole answer_of tells r r' d e in
      (q.0, ap (λ (x : Store × List ℕ). x.0) q.1, ap (λ (x : Store × List ℕ). x.1) q.1)

  pub freelist : (out : List ℕ) (r r' : Result ℕ Refusal) (o o' : List ℕ) → Did (listing_free s out) out (answer_of r) o → Did (listing_free s out) out (answer_of r') o' → (r ≡ r') × (o ≡ o')
  freelist out r r' o o' d e = sole answer_of tells r r' d e
