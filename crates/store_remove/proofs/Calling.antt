-- A remove past the first tests: the entity that was found, or why there is none.
-- Assumes nothing.
use Prim.{tt}
use Prim.Native.Nat.{ℕ}
use mathlib.Core.Path.{◌≡◌, ◌∙◌}
use mathlib.Core.Bool.{false}
use Rattle.std.specs.Prelude.{Result, Ok}
use Rattle.std.specs.Result.{IsErrAnd}
use Rattle.std.proofs.lemmas.Result.{err_from_is_err_and}
use Rattle.refusal.specs.Number.{number_of}
use Rattle.refusal.specs.Table.{granted, refused, passing}
use Rattle.refusal.specs.declared.Refusal.{Refusal}
use Rattle.handle.specs.Bits.{generation_in, number_in, handle_of, from_bits}
use Rattle.handle.specs.OnBits.{on_good}
use Rattle.handle.specs.declared.Handle.{Handle}
use Rattle.handle.specs.declared.Number.{Number}
use Rattle.handle.specs.declared.Place.{Place}
use Rattle.decl.specs.declared.Span.{Span}
use Rattle.store_tables.specs.Store.{Store, entry}
use Rattle.store_tables.specs.Seen.{entity_seen}
use Rattle.store_tables.proofs.Entering.{entered}
use Rattle.store_tables.proofs.Entities.{entity_refused, entity_passed, entity_goes, entity_span, entity_place, entity_ok}
use Rattle.store_remove.specs.declared.Way.{Way}
use Rattle.store_remove.specs.Remove.{removed, removing}
use Rattle.store_remove.specs.Seen.{Placed, Finds}

-- a refusal that is handed up refuses the remove
pub refuses : (s : Store) (bits t : ℕ) (r : Result (Span × Place × Number × Way) Refusal) (x : Refusal) → IsErrAnd r (λ y. y ≡ x) → removing s bits t ≡ refused (number_of x) → Finds s bits t r
refuses s bits t r x h k = let p = err_from_is_err_and r h in rw (p.1, p.2) k

-- past the first tests and the bits: the entity
module _ (s : Store) (bits t : ℕ) (e : granted tt ≡ passing (entry s false)) (r : Result Handle Refusal) (a : handle_of r ≡ from_bits bits) (h : Handle) (p : r ≡ Ok h) where
  abbrev g : ℕ
  g = generation_in h.0

  abbrev n : ℕ
  n = number_in h.0

  good : removing s bits t ≡ removed s t g n
  unfolding removing
  good = on_good _ _ (removed s t) r h e a p

  pub unplaced : {m : ℕ} → refused m ≡ entity_seen s.decl s.ids s.rows.numbers s.rows.counts g n → removing s bits t ≡ refused m
  unfolding removed
  unplaced q = good ∙ entity_refused s (entered s false e) g n _ q

  -- of the number as the code has taken it from the handle
  pub placed : (span : Span) (place : Place) → granted (span, place) ≡ entity_seen s.decl s.ids s.rows.numbers s.rows.counts g n → (m : ℕ) → m ≡ n → Placed s bits t span place m
  unfolding removed
  placed span place q m x = rw x (record {
    entered = entered s false e;
    span_is = entity_span s (entered s false e) g n span place q;
    place_is = entity_place s (entered s false e) g n span place q;
    own = (entity_ok s g n (entity_passed s (entered s false e) g n span place q)).own;
    rule = good ∙ entity_goes s (entered s false e) g n span place q _;
  })
