-- The contracts determine the number that a call answers, its four numbers and all that it leaves: no second result fits. One instance a function, under its name.
-- Assumes nothing.
use Prim.Native.Nat.{ℕ}
use mathlib.Core.Path.{◌≡◌, ap}
use mathlib.Core.List.{List}
use Rattle.refusal.specs.Table.{Answer, granted}
use Rattle.handle.specs.declared.Place.{Place}
use Rattle.handle.specs.Bits.{from_bits, new_handle}
use Rattle.borrow_word.specs.Word.{shared_word, unique_word, released_word, unique_released_word}
use Rattle.borrow_word.specs.Slice.{at_word}
use Rattle.id_tables.specs.Ids.{Ids, ids_of}
use Rattle.id_tables.specs.Lookup.{containing, getting, setting_place, resolving, counting, clearing}
use Rattle.ids.specs.Reserve.{reserving}
use Rattle.ids.specs.Alloc.{allocating}
use Rattle.ids.specs.AllocAt.{allocating_at}
use Rattle.ids.specs.Free.{freeing}
use Rattle.id_batches.specs.declared.many.AllocManyState.{AllocManyState}
use Rattle.id_batches.specs.Reserve as batch
use Rattle.id_batches.specs.AllocMany.{allocating_many, walking, left_in as numbers_left}
use Rattle.id_batches.specs.Flush.{flushing}
use Rattle.id_batches.specs.Freelist.{listing}
use Rattle.id_readers.specs.Reader.{reader_at, stepping, left_in}
use Rattle.crossing.specs.Words.{head_of}
use Rattle.crossing.specs.Answers.{Crossed, Passed, four, number_four, yes_four, place_four, old_place_four, maybe_four}
use Rattle.crossing.proofs.Sole.{Four, heads_one, Only, only, crossed_one, passed_one, CrossedIds, crossed_ids_one, PassedIds, passed_ids_one, CrossedAny, crossed_any, PassedAny, passed_any}
use Rattle.exports_ids.specs.Span.{span_four, reserving_span}
use Rattle.exports_ids.specs.State.{state_four, state_in}
use Rattle.exports_ids.specs.Words.{in_place, halves_four}

-- the id tables with an output of handles
abbrev PassedOut : {A : Type 0} → Answer (A × (Ids × List ℕ)) → Ids × List ℕ → Type 0
PassedOut rule s =
    (c c' : ℕ) (ws ws' g a x p o g' a' x' p' o' : List ℕ) → Four ws → Four ws' → Passed rule s c (ids_of (head_of ws) g a x p, o)
    → Passed rule s c' (ids_of (head_of ws') g' a' x' p', o') → (c ≡ c') × (ws ≡ ws') × (g ≡ g') × (a ≡ a') × (x ≡ x') × (p ≡ p') × (o ≡ o')

passed_out_one : {A : Type 0} (rule : Answer (A × (Ids × List ℕ))) (s : Ids × List ℕ) → PassedOut rule s
passed_out_one rule s c c' ws ws' g a x p o g' a' x' p' o' f f' d e =
    let q = passed_one d e in
    (q.0, heads_one f f' (ap (λ (t : Ids × List ℕ). t.0.head) q.1), ap (λ (t : Ids × List ℕ). t.0.generations) q.1, ap (λ (t : Ids × List ℕ). t.0.archetypes) q.1, ap (λ (t : Ids × List ℕ). t.0.indices) q.1, ap (λ (t : Ids × List ℕ). t.0.pending) q.1, ap (λ (t : Ids × List ℕ). t.1) q.1)

-- a walking state's four numbers
states_one : (a b c d a' b' c' d' : ℕ) → state_in (four a b c d) ≡ state_in (four a' b' c' d') → four a b c d ≡ four a' b' c' d'
unfolding state_in
states_one a b c d a' b' c' d' e =
    rw (ap (λ (w : AllocManyState). w.position) e, ap (λ (w : AllocManyState). w.top) e, ap (λ (w : AllocManyState). w.number) e, ap (λ (w : AllocManyState). w.end) e)

pub verdict_word_shared : (word : ℕ) → PassedAny (in_place (shared_word word)) word
verdict_word_shared word = passed_any (in_place (shared_word word)) word

pub verdict_word_shared_at : (words : List ℕ) (at : ℕ) → CrossedAny number_four (at_word shared_word words at) words
verdict_word_shared_at words at = crossed_any number_four (at_word shared_word words at) words

pub verdict_word_unique : (word : ℕ) → PassedAny (in_place (unique_word word)) word
verdict_word_unique word = passed_any (in_place (unique_word word)) word

pub verdict_word_unique_at : (words : List ℕ) (at : ℕ) → CrossedAny number_four (at_word unique_word words at) words
verdict_word_unique_at words at = crossed_any number_four (at_word unique_word words at) words

pub verdict_word_release : (word : ℕ) → PassedAny (in_place (released_word word)) word
verdict_word_release word = passed_any (in_place (released_word word)) word

pub verdict_word_release_at : (words : List ℕ) (at : ℕ) → CrossedAny number_four (at_word released_word words at) words
verdict_word_release_at words at = crossed_any number_four (at_word released_word words at) words

pub verdict_word_unique_release : (word : ℕ) → PassedAny (in_place (unique_released_word word)) word
verdict_word_unique_release word = passed_any (in_place (unique_released_word word)) word

pub verdict_word_unique_release_at : (words : List ℕ) (at : ℕ) → CrossedAny number_four (at_word unique_released_word words at) words
verdict_word_unique_release_at words at = crossed_any number_four (at_word unique_released_word words at) words

pub verdict_handle_from_bits : (raw : ℕ) → Only halves_four (from_bits raw)
verdict_handle_from_bits raw = only halves_four (from_bits raw)

pub verdict_handle_new : (number : ℕ) (generation : ℕ) → Only number_four (new_handle number generation)
verdict_handle_new number generation = only number_four (new_handle number generation)

pub verdict_ids_reserve_entity : (s : Ids) → CrossedIds number_four (reserving s) s
verdict_ids_reserve_entity s = crossed_ids_one number_four (reserving s) s

pub verdict_ids_alloc : (s : Ids) (place : Place) → CrossedIds number_four (allocating s place) s
verdict_ids_alloc s place = crossed_ids_one number_four (allocating s place) s

pub verdict_ids_alloc_at : (s : Ids) (bits : ℕ) (place : Place) → CrossedIds old_place_four (allocating_at s bits place) s
verdict_ids_alloc_at s bits place = crossed_ids_one old_place_four (allocating_at s bits place) s

pub verdict_ids_free : (s : Ids) (bits : ℕ) → CrossedIds place_four (freeing s bits) s
verdict_ids_free s bits = crossed_ids_one place_four (freeing s bits) s

pub verdict_ids_contains : (s : Ids) (bits : ℕ) → Only yes_four (containing s bits)
verdict_ids_contains s bits = only yes_four (containing s bits)

pub verdict_ids_get : (s : Ids) (bits : ℕ) → Only place_four (getting s bits)
verdict_ids_get s bits = only place_four (getting s bits)

pub verdict_ids_set_place : (s : Ids) (bits : ℕ) (place : Place) → PassedAny (setting_place s bits place) s
verdict_ids_set_place s bits place = passed_any (setting_place s bits place) s

pub verdict_ids_resolve_unknown_gen : (s : Ids) (number : ℕ) → Only number_four (resolving s number)
verdict_ids_resolve_unknown_gen s number = only number_four (resolving s number)

pub verdict_ids_len : (s : Ids) → Only number_four (counting s)
verdict_ids_len s = only number_four (counting s)

pub verdict_ids_clear : (s : Ids) → PassedIds (clearing s) s
verdict_ids_clear s = passed_ids_one (clearing s) s

pub verdict_ids_reserve_entities : (s : Ids) (n : ℕ) (handles : List ℕ) → PassedOut (batch.reserving s n handles) (s, handles)
verdict_ids_reserve_entities s n handles = passed_out_one (batch.reserving s n handles) (s, handles)

pub verdict_ids_alloc_many : (s : Ids) (n : ℕ) (archetype : ℕ) (first : ℕ) → CrossedIds state_four (allocating_many s n archetype first) s
verdict_ids_alloc_many s n archetype first = crossed_ids_one state_four (allocating_many s n archetype first) s

pub verdict_ids_flush : (s : Ids) (archetype : ℕ) (first : ℕ) → PassedIds (flushing s archetype first) s
verdict_ids_flush s archetype first = passed_ids_one (flushing s archetype first) s

pub verdict_ids_freelist : (s : Ids) (handles : List ℕ) → CrossedAny number_four (listing s handles) handles
verdict_ids_freelist s handles = crossed_any number_four (listing s handles) handles

pub verdict_ids_alloc_many_next : (w : AllocManyState) (pending : List ℕ) (r r' : ℕ) (o o' : List ℕ) (a b c d a' b' c' d' : ℕ) → Crossed maybe_four (walking w pending) w r o (state_in (four a b c d))
    → Crossed maybe_four (walking w pending) w r' o' (state_in (four a' b' c' d')) → (r ≡ r') × (o ≡ o') × (four a b c d ≡ four a' b' c' d')
verdict_ids_alloc_many_next w pending r r' o o' a b c d a' b' c' d' x y = let q = crossed_one x y in (q.0, q.1, states_one a b c d a' b' c' d' q.2)

pub verdict_ids_alloc_many_len : (w : AllocManyState) → Only number_four (granted (numbers_left w))
verdict_ids_alloc_many_len w = only number_four (granted (numbers_left w))

pub verdict_ids_reserve_span : (s : Ids) (n : ℕ) → CrossedIds span_four (reserving_span s n) s
verdict_ids_reserve_span s n = crossed_ids_one span_four (reserving_span s n) s

pub verdict_ids_reserve_next : (part : List ℕ) (position number end : ℕ) (generations : List ℕ) → CrossedAny maybe_four (stepping (reader_at part position number end) generations) (reader_at part position number end)
verdict_ids_reserve_next part position number end generations = crossed_any maybe_four (stepping (reader_at part position number end) generations) (reader_at part position number end)

pub verdict_ids_reserve_len : (part : List ℕ) (position number end : ℕ) → Only number_four (granted (left_in (reader_at part position number end)))
verdict_ids_reserve_len part position number end = only number_four (granted (left_in (reader_at part position number end)))
