-- An insert past the first tests: the entity that was found, or why there is none.
-- Assumes nothing.
use Prim.{tt}
use Prim.Native.Nat.{ℕ}
use mathlib.Core.Path.{◌≡◌, sym, ap, ◌∙◌}
use mathlib.Core.Bool.{Bool}
use mathlib.Core.List.{List}
use lib.ListN.{length}
use Rattle.std.specs.Prelude.{Result, Ok, Err}
use Rattle.std.specs.Result.{IsErrAnd}
use Rattle.std.proofs.lemmas.Result.{err_from_is_err_and}
use Rattle.refusal.specs.Number.{number_of}
use Rattle.refusal.specs.Table.{granted, refused, passing}
use Rattle.refusal.specs.declared.Refusal.{Refusal}
use Rattle.handle.specs.Bits.{generation_in, number_in, handle_of, from_bits}
use Rattle.handle.specs.OnBits.{on_first, on_zero, on_good}
use Rattle.handle.specs.declared.Handle.{Handle}
use Rattle.handle.specs.declared.Number.{Number}
use Rattle.handle.specs.declared.Place.{Place}
use Rattle.decl.specs.declared.Span.{Span}
use Rattle.column_entry.specs.Entry.{wrong_size}
use Rattle.store_tables.specs.Store.{Store, entry}
use Rattle.store_tables.proofs.Entering.{entered, entered_right}
use Rattle.store_tables.specs.Seen.{entity_seen}
use Rattle.store_tables.proofs.Entities.{entity_refused, entity_passed, entity_goes, entity_span, entity_place, entity_ok}
use Rattle.store_insert.specs.declared.Way.{Way}
use Rattle.store_insert.specs.Insert.{inserted, inserting}
use Rattle.store_insert.specs.Seen.{Placed, Finds}

-- a refusal that is handed up refuses the insert
pub refuses : (s : Store) (bits t : ℕ) (value : List ℕ) (r : Result (Span × Place × Number × Way) Refusal) (x : Refusal) → IsErrAnd r (λ y. y ≡ x)
    → inserting s bits t value ≡ refused (number_of x) → Finds s bits t value r
refuses s bits t value r x h k = let p = err_from_is_err_and r h in rw (p.1, p.2) k

-- the first tests, the bits and the entity, with the value's length as the code has seen it
module _ (s : Store) (bits t : ℕ) (value : List ℕ) (short : Bool) (size : short ≡ wrong_size s.decl.types s.decl.sizes t (length value)) where
  pub insert_first : {m : ℕ} → refused m ≡ passing (entry s short) → inserting s bits t value ≡ refused m
  unfolding inserting
  insert_first e = on_first _ _ _ (e ∙ ap (λ (b : Bool). passing (entry s b)) size)

  module _ (e : granted tt ≡ passing (entry s short)) (r : Result Handle Refusal) (a : handle_of r ≡ from_bits bits) where
    pub insert_zero : (x : Refusal) → r ≡ Err x → inserting s bits t value ≡ refused 5
    unfolding inserting
    insert_zero x p = on_zero _ _ _ r x (e ∙ ap (λ (b : Bool). passing (entry s b)) size) a p

    module _ (h : Handle) (p : r ≡ Ok h) where
      abbrev g : ℕ
      g = generation_in h.0

      abbrev n : ℕ
      n = number_in h.0

      good : inserting s bits t value ≡ inserted s t value g n
      unfolding inserting
      good = on_good _ _ (inserted s t value) r h (e ∙ ap (λ (b : Bool). passing (entry s b)) size) a p

      pub unplaced : {m : ℕ} → refused m ≡ entity_seen s.decl s.ids s.rows.numbers s.rows.counts g n → inserting s bits t value ≡ refused m
      unfolding inserted
      unplaced q = good ∙ entity_refused s (entered s short e) g n _ q

      -- of the number as the code has taken it from the handle
      pub placed : (span : Span) (place : Place) → granted (span, place) ≡ entity_seen s.decl s.ids s.rows.numbers s.rows.counts g n → (m : ℕ) → m ≡ n → Placed s bits t value span place m
      unfolding inserted
      placed span place q m x = rw x (record {
        entered = entered s short e;
        span_is = entity_span s (entered s short e) g n span place q;
        place_is = entity_place s (entered s short e) g n span place q;
        own = (entity_ok s g n (entity_passed s (entered s short e) g n span place q)).own;
        right = sym size ∙ entered_right s short e;
        rule = good ∙ entity_goes s (entered s short e) g n span place q _;
      })
