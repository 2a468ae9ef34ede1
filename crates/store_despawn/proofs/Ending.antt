-- The step of a despawn: the row has left and its number is freed, which no rule forbids then.
-- Assumes nothing.
use Prim.{tt}
use Prim.Native.Nat.{ℕ}
use mathlib.Core.Path.{◌≡◌, refl, sym, ap, ◌∙◌}
use mathlib.Core.Bool.{false}
use mathlib.Core.List.{List}
use Rattle.std.specs.Prelude.{Result, Ok, Err}
use Rattle.std.specs.Result.{IsErrAnd}
use Rattle.std.proofs.lemmas.Result.{err_from_is_err_and}
use Rattle.refusal.specs.Number.{number_of}
use Rattle.refusal.specs.Table.{Answer, granted, refused, left_of, Did, answer_of, passing}
use Rattle.refusal.specs.Laws.{stops, via, did_refused, not_refused}
use Rattle.refusal.specs.declared.Refusal.TheVariants.{ZeroGeneration}
use Rattle.refusal.specs.declared.Refusal.{Refusal}
use Rattle.handle.specs.Bits.{generation_in, number_in, handle_of, from_bits}
use Rattle.handle.specs.OnBits.{on_first, on_zero, on_good}
use Rattle.handle.specs.RoundTrip.{from_bits_nonzero, good}
use Rattle.handle.specs.declared.Handle.{Handle}
use Rattle.handle.specs.declared.Place.{Place}
use Rattle.id_tables.specs.declared.head.Head.{Head}
use Rattle.id_tables.specs.Ids.{Ids, ids_of, place_at}
use Rattle.id_tables.proofs.Meaning.{ok_passes}
use Rattle.ids.specs.Free.{freed_ids, freeing}
use Rattle.ids.proofs.Passing.{FreeOk}
use Rattle.ids.proofs.Laws.{freeing_at}
use Rattle.decl.specs.Places.{span_of}
use Rattle.decl.specs.declared.Span.{Span}
use Rattle.row_step.specs.Tables.{Rows}
use Rattle.store_steps.proofs.Laws.{block_by_lem, sizes_by}
use Rattle.store_steps.specs.Parts.{block_by, part_by}
use Rattle.store_steps.specs.Seats.{seats_of, vacated_seats, Seats}
use Rattle.store_tables.proofs.Entering.{entered}
use Rattle.store_tables.specs.Store.{Store, store_of, entry}
use Rattle.store_tables.specs.Rows.{archetype_of, row_of, vacated}
use Rattle.store_tables.specs.Kept.{Entered}
use Rattle.store_tables.proofs.Places.{owns_means, vacating}
use Rattle.store_tables.proofs.Vacating.{Vacates, vacates}
use Rattle.store_despawn.specs.Despawn.{despawn_rules, ended, despawned, despawning}
use Rattle.store_despawn.specs.Seen.{leaving, Leaves, Finds}
use Rattle.store_despawn.proofs.Granting.{despawning_at}
use Rattle.store_despawn.proofs.Laws.{DespawnOk, despawn_ok, leaving_parts}

-- the row that has left
pub row_left : (s : Store) (g n : ℕ) → Entered s → DespawnOk s g n → Vacates s (archetype_of s n) (row_of s n)
row_left s g n e k = vacates s (archetype_of s n) (row_of s n) e (owns_means s n k.own).row_in k.moved_good

-- the number is still live with its generation, so that it can be freed
pub can_free : (s : Store) (g n : ℕ) → Entered s → DespawnOk s g n → FreeOk (vacated s (archetype_of s n) (row_of s n)).ids g n
can_free s g n e k =
    let v = row_left s g n e k in
    record {
      ok = v.ok;
      is_flushed = rw v.head_kept k.is_flushed;
      lives = v.live_kept g n ∙ k.lives;
      some_live = rw v.head_kept k.some_live;
    }

-- what the two steps left
pub left_by : (t : Seats) (head : Head) (generations pending archetypes indices : List ℕ) (bits : ℕ) (said : Result Place Refusal) (i : Ids) (w : Rows) → seats_of archetypes indices w ≡ t
    → Did (freeing (ids_of head generations archetypes indices pending) bits) (ids_of head generations archetypes indices pending) (answer_of said) i → Leaves t head generations pending bits said i w
left_by t head generations pending archetypes indices bits said i w e d = rw (← e) (record { frees = d; rows_are = refl })

module _ (s : Store) (h : ℕ) (e : Entered s) (nz : generation_in h ≡ 0 → ⊥) (span : Span) (place : Place)
    (k : granted (span, place) ≡ leaving s (generation_in h) (number_in h)) where
  abbrev n : ℕ
  n = number_in h

  abbrev a : ℕ
  a = archetype_of s n

  ok : DespawnOk s (generation_in h) n
  ok = despawn_ok s (generation_in h) n (leaving_parts s (generation_in h) n k).0

  span_is : span ≡ span_of s.decl a
  span_is = (leaving_parts s (generation_in h) n k).1

  place_is : place ≡ place_at s.ids n
  place_is = (leaving_parts s (generation_in h) n k).2

  -- the tables that the row has left
  abbrev t : Seats
  t = vacated_seats (block_by s.decl.rows span place.archetype) (part_by s.decl.sizes span) (seats_of s.ids.archetypes s.ids.indices s.rows) place.archetype place.index.0

  abbrev left : Ids
  left = ids_of s.ids.head s.ids.generations t.archetypes t.indices s.ids.pending

  vacant : store_of s.decl left t.rows s.words ≡ vacated s a (row_of s n)
  vacant =
      vacating s a (row_of s n) t.archetypes t.indices t.rows (owns_means s n ok.own).row_in (e.rows.counts_in a)
      (rw (place_is, block_by_lem s.decl a span span_is, sizes_by s.decl a span span_is))

  freeable : freeing left h ≡ granted (place_at left n, freed_ids left (generation_in h) n)
  freeable =
      let q : left ≡ (vacated s a (row_of s n)).ids = ap (λ (x : Store). x.ids) vacant in
      let f : FreeOk left (generation_in h) n = rw q (can_free s (generation_in h) n e ok) in
      freeing_at left h (record { passes = sym (ok_passes left f.ok); nonzero = nz }) f

  -- so the id layer does not refuse
  frees_there : {m : ℕ} {i : Ids} → Did (freeing left h) left (refused m) i → ⊥
  frees_there d = not_refused (sym freeable ∙ (did_refused (freeing left h) d).0)

  has_ended : {o : Place} {i : Ids} {w : Rows} → Leaves t s.ids.head s.ids.generations s.ids.pending h (Ok o) i w → Did (ended s (generation_in h) n) s (granted tt) (store_of s.decl i w s.words)
  has_ended {i = i} l =
      let ids : i ≡ freed_ids left (generation_in h) n = l.frees.leaves ∙ ap (λ (z : Answer (Place × Ids)). left_of z left) freeable in
      record { answer = refl; leaves = rw (← vacant, ids, l.rows_are) }

module _ (s : Store) (g n : ℕ) where
  pub stays : {m : ℕ} → refused m ≡ leaving s g n → despawned s g n ≡ refused m
  unfolding leaving despawned
  stays e = stops (despawn_rules s g n) _ _ e

-- the row that a despawn ends, and what the steps then leave
module _ (s : Store) (bits : ℕ) where
  pub refuses : (r : Result (Span × Place) Refusal) (x : Refusal) → IsErrAnd r (λ y. y ≡ x) → despawning s bits ≡ refused (number_of x) → Finds s bits r
  unfolding Finds
  refuses r x h e = let p = err_from_is_err_and r h in rw (p.1, p.2) e

  pub first_refuse : {m : ℕ} → refused m ≡ passing (entry s false) → despawning s bits ≡ refused m
  unfolding despawning
  first_refuse e = on_first _ _ _ e

  module _ (e : granted tt ≡ passing (entry s false)) (r : Result Handle Refusal) (a : handle_of r ≡ from_bits bits) where
    pub refused_zero : (x : Refusal) → r ≡ Err x → Finds s bits (Err ZeroGeneration)
    unfolding Finds despawning
    refused_zero x p = on_zero _ _ _ r x e a p

    pub row_found : (h : Handle) → r ≡ Ok h → (l : Result (Span × Place) Refusal) → answer_of l ≡ leaving s (generation_in h.0) (number_in h.0) → Finds s bits l
    unfolding Finds despawning
    row_found h p (Ok found) k =
        let q = (good bits r h a p).0 in
        (entered s false e, rw q at (from_bits_nonzero bits h (sym (ap handle_of p) ∙ a)), rw q at k)
    row_found h p (Err x) k = on_good _ _ _ r h e a p ∙ stays s (generation_in h.0) (number_in h.0) k

  pub refused_so : (x : Refusal) → Finds s bits (Err x) → despawning s bits ≡ refused (number_of x)
  unfolding Finds
  refused_so x f = f

  module _ (span : Span) (place : Place) (f : Finds s bits (Ok (span, place))) where
    abbrev vacant_seats : Seats
    vacant_seats = vacated_seats (block_by s.decl.rows span place.archetype) (part_by s.decl.sizes span) (seats_of s.ids.archetypes s.ids.indices s.rows) place.archetype place.index.0

    pub refuses_not : {x : Refusal} {i : Ids} {w : Rows} → Leaves vacant_seats s.ids.head s.ids.generations s.ids.pending bits (Err x) i w → ⊥
    unfolding Finds
    refuses_not l = frees_there s bits f.0 f.1 span place f.2 l.frees

    pub ends : {o : Place} {i : Ids} {w : Rows} → Leaves vacant_seats s.ids.head s.ids.generations s.ids.pending bits (Ok o) i w → Did (despawning s bits) s (granted tt) (store_of s.decl i w s.words)
    unfolding Finds
    ends l =
        via (despawning_at s bits f.0 f.1 (despawn_ok s (generation_in bits) (number_in bits) (leaving_parts s (generation_in bits) (number_in bits) f.2).0))
        (has_ended s bits f.0 f.1 span place f.2 l)
