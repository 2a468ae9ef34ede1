-- The contracts determine the result and what is left of everything lent: no second result fits. One instance a function, under its name.
-- Of a view and of a reader they determine what it reads: the lists behind its slices, and its head or its positions.
-- Assumes nothing.
use Prim.Native.Nat.{ℕ}
use mathlib.Core.Path.{◌≡◌, refl, sym, ap, ◌∙◌}
use mathlib.Core.List.{List}
use Rattle.std.specs.Prelude.{Result, Some, None, Option}
use Rattle.refusal.specs.declared.Refusal.{Refusal}
use Rattle.refusal.specs.Table.{Did, answer_by}
use Rattle.refusal.specs.Laws.{determined, sole}
use Rattle.refusal.specs.Distinct.{tells_by}
use Rattle.handle.specs.declared.Handle.{Handle}
use Rattle.handle.specs.declared.Number.{Number}
use Rattle.handle.specs.RoundTrip.{same_handle, same_number}
use Rattle.id_tables.specs.Ids.{Ids}
use Rattle.id_batches.specs.AllocMany.{walking}
use Rattle.id_batches.specs.declared.many.AllocManyState.{AllocManyState}
use Rattle.id_readers.specs.Reader.{Reader, reader_at, reader_of, reserving_span, reserving_reader, span_of, stepping, handed_of, left_in}
use Rattle.id_readers.specs.State.{numbered_of}
use Rattle.id_readers.specs.declared.reader.ReserveEntitiesIterator.{ReserveEntitiesIterator}
use Rattle.id_readers.specs.declared.spans.Span.{Span}

-- the document's answer is that of one result
same_span : (r s : Span) → span_of r ≡ span_of s → r ≡ s
same_span r s e = λ i. record { from = (e i).0; to = (e i).1; number = (e i).2; end = (e i).3 }

same_handed : (r s : Option Handle) → handed_of r ≡ handed_of s → r ≡ s
same_handed (Some a) (Some b) e = ap Some (same_handle a b (cc))
same_handed (Some a) None e = cc
same_handed None (Some b) e = cc
same_handed None None e = refl

same_numbered : (r s : Option Number) → numbered_of r ≡ numbered_of s → r ≡ s
same_numbered (Some a) (Some b) e = ap Some (same_number a b (cc))
same_numbered (Some a) None e = cc
same_numbered None (Some b) e = cc
same_numbered None None e = refl

module _ (s : Ids) (n : ℕ) (t t' : Ids) where
  pub reserve_span : (r r' : Result Span Refusal) → Did (reserving_span s n) s (answer_by span_of r) t → Did (reserving_span s n) s (answer_by span_of r') t' → (r ≡ r') × (t ≡ t')
  reserve_span r r' d e = sole (answer_by span_of) (tells_by span_of same_span) r r' d e

  -- of two readers that are made, each reads what the other does
  abbrev Alike : Result ReserveEntitiesIterator Refusal → Result ReserveEntitiesIterator Refusal → Type 0
  Alike r r' = answer_by reader_of r ≡ answer_by reader_of r'

  pub reserve_entities_lem : (r r' : Result ReserveEntitiesIterator Refusal) → Did (reserving_reader s n) s (answer_by reader_of r) t
      → Did (reserving_reader s n) s (answer_by reader_of r') t' → Alike r r' × (t ≡ t')
  reserve_entities_lem r r' d e = determined d e

-- the reader
module _ (w : ReserveEntitiesIterator) where
  pub next : (generations : List ℕ) (r r' : Result (Option Handle) Refusal) (left left' : ReserveEntitiesIterator)
      → Did (stepping (reader_of w) generations) (reader_of w) (answer_by handed_of r) (reader_of left)
      → Did (stepping (reader_of w) generations) (reader_of w) (answer_by handed_of r') (reader_of left') → (r ≡ r') × (reader_of left ≡ reader_of left')
  next generations r r' left left' d e = sole (answer_by handed_of) (tells_by handed_of same_handed) r r' d e

  pub len : (r r' : ℕ) → r ≡ left_in (reader_of w) → r' ≡ left_in (reader_of w) → r ≡ r'
  len r r' d e = d ∙ sym e

pub reserve_next : (part : List ℕ) (position number end : ℕ) (generations : List ℕ) (r r' : Result (Option Handle) Refusal) (p p' k k' : ℕ)
    → Did (stepping (reader_at part position number end) generations) (reader_at part position number end) (answer_by handed_of r) (reader_at part p k end)
    → Did (stepping (reader_at part position number end) generations) (reader_at part position number end) (answer_by handed_of r') (reader_at part p' k' end) → (r ≡ r') × (p ≡ p') × (k ≡ k')
reserve_next part position number end generations r r' p p' k k' d e =
    let q = sole (answer_by handed_of) (tells_by handed_of same_handed) r r' d e in
    (q.0, ap (λ (w : Reader). w.position) q.1, ap (λ (w : Reader). w.number) q.1)

pub reserve_len : (part : List ℕ) (position number end : ℕ) (r r' : ℕ) → r ≡ left_in (reader_at part position number end) → r' ≡ left_in (reader_at part position number end) → r ≡ r'
reserve_len part position number end r r' d e = d ∙ sym e

-- the state
module _ (w : AllocManyState) (pending : List ℕ) where
  pub alloc_many_step : (r r' : Result (Option Number) Refusal × AllocManyState) → Did (walking w pending) w (answer_by numbered_of r.0) r.1 → Did (walking w pending) w (answer_by numbered_of r'.0) r'.1 → r ≡ r'
  alloc_many_step r r' d e =
      let p = sole (answer_by numbered_of) (tells_by numbered_of same_numbered) r.0 r'.0 d e in
      λ i. (p.0 i, p.1 i)

  pub alloc_many_next : (r r' : Result (Option Number) Refusal) (left left' : AllocManyState) → Did (walking w pending) w (answer_by numbered_of r) left
      → Did (walking w pending) w (answer_by numbered_of r') left' → (r ≡ r') × (left ≡ left')
  alloc_many_next r r' left left' d e = sole (answer_by numbered_of) (tells_by numbered_of same_numbered) r r' d e
