-- Handles differ across any reservations that are granted, from whatever sound tables.
-- Assumes nothing.
use Prim.{Unit, tt}
use Prim.Native.Nat.{ℕ, ◌+◌, ◌≤◌}
use native.Mathlib.Omega.{arith}
use mathlib.Core.Path.{◌≡◌, refl, sym, ap, ◌∙◌, subst}
use mathlib.Core.Logic.{⊎_elim}
use mathlib.Core.Bool.{true}
use mathlib.Core.List.{List, [], ◌∷◌, map}
use lib.IntN.{ℤ}
use Rattle.refusal.specs.Table.{Answer, granted, refused}
use Rattle.refusal.specs.Laws.{not_refused}
use Rattle.handle.specs.Bits.{generation_in, number_in}
use Rattle.id_tables.specs.Ids.{live}
use Rattle.id_tables.specs.Lookup.{is_contained}
use Rattle.id_batches.specs.Flush.{reserved_count}
use Rattle.store_tables.specs.Store.{Store}
use Rattle.store_reserve.specs.Reserve.{reserving, reserving_many}
use Rattle.store_reserve.proofs.Laws.{reserving_parts, reserving_many_parts}
use Rattle.soundness.specs.Sound.{Sound}
use Rattle.soundness.proofs.Lists.{distinct_differ}
use Rattle.soundness.proofs.Meaning.{sound_ok, live_lives}
use Rattle.soundness.proofs.Growing.{Fresh, fresh_not_live, fresh_apart}
use Rattle.soundness.proofs.Handing.{vacant, After, after_now, after_fall, after_room, gen_of, handle_of, gen_nonzero}
use Rattle.soundness.proofs.Knowing.{Handed, fails, contained_then}
use Rattle.demand_three.specs.Steps.{Step, single, batch, lookup, size, LongEnough, the_one, the_first, before, ◌and_then◌, step, run}
use Rattle.demand_three.specs.Demand.{Among, HandlesDiffer}
use Rattle.demand_three.specs.Demand as demand
use Rattle.demand_three.proofs.Running.{store_at, Reserved, single_granted, batch_granted, run_granted}
use Rattle.demand_three.proofs.Looking.{contains_is, handles_list, among_fresh}

-- what is granted in two parts is granted in each
rest_granted : (given : List ℕ) (a : Answer (List ℕ × Store)) {x : List ℕ × Store} → granted x ≡ before given a → (y : List ℕ × Store) × (granted y ≡ a)
rest_granted given (granted y) e = (y, refl)
rest_granted given (refused m) e = absurd (not_refused e)

both_granted : (a : Answer (List ℕ × Store)) (more : Store → Answer (List ℕ × Store)) {x : List ℕ × Store} → granted x ≡ (a and_then more)
    → (y : List ℕ × Store) × (granted y ≡ a) × (z : List ℕ × Store) × (granted z ≡ more y.1)
both_granted (granted y) more e = let w = rest_granted y.0 (more y.1) e in (y, refl, w.0, w.1)
both_granted (refused m) more e = absurd (not_refused e)

one_granted : (a : Answer (ℕ × Store)) {x : List ℕ × Store} → granted x ≡ the_one a → (y : ℕ × Store) × (granted y ≡ a)
one_granted (granted y) e = (y, refl)
one_granted (refused m) e = absurd (not_refused e)

first_granted : (n : ℕ) (a : Answer (Unit {0} × (Store × List ℕ))) {x : List ℕ × Store} → granted x ≡ the_first n a → (y : Unit {0} × (Store × List ℕ)) × (granted y ≡ a)
first_granted n (granted y) e = (y, refl)
first_granted n (refused m) e = absurd (not_refused e)

left_is : {x y : List ℕ × Store} → granted x ≡ granted y → x.1 ≡ y.1
left_is {x} {y} e = let p : x ≡ y = cc in ap (λ z. z.1) p

module _ {s : Store} (h : Sound s) where
  -- steps that are granted found the numbers, and outputs that were long enough
  fits : (xs : List Step) {k : ℕ} {c : ℤ} {x : List ℕ × Store} → After s.ids k c → k ≤ vacant s.ids → granted x ≡ run xs (store_at s c) → (k + size xs ≤ vacant s.ids) × LongEnough xs
  unfolding run step
  fits [] a f e = (omega arith, tt)
  fits (single ∷ xs) {k} {c} a f e =
      let p = both_granted (the_one (reserving (store_at s c))) (run xs) e in
      let o = reserving_parts (store_at s c) (one_granted (reserving (store_at s c)) p.1).1 in
      let w : k + 1 ≤ vacant s.ids = omega (arith, o.1.has_room, after_room (sound_ok s.ids h.ids) a f) in
      let z = fits xs (after_fall a 1) w (p.3 ∙ ap (run xs) (left_is (p.1 ∙ single_granted h a w))) in
      (omega (arith, z.0), z.1)
  fits (batch n out ∷ xs) {k} {c} a f e =
      let p = both_granted (the_first n (reserving_many (store_at s c) n out)) (run xs) e in
      let o = reserving_many_parts (store_at s c) n out (first_granted n (reserving_many (store_at s c) n out) p.1).1 in
      let w : k + n ≤ vacant s.ids = omega (arith, o.1.room_in, after_room (sound_ok s.ids h.ids) a f) in
      let z = fits xs (after_fall a n) w (p.3 ∙ ap (run xs) (left_is (p.1 ∙ batch_granted h a n out w o.1.places_in))) in
      (omega (arith, z.0), (o.1.places_in, z.1))
  fits (lookup ∷ xs) a f e = let w = rest_granted [] (run xs (store_at s _)) e in fits xs a f w.1

  now : After s.ids (reserved_count s.ids) s.ids.head.cursor
  now = after_now h.ids

  in_room : reserved_count s.ids ≤ vacant s.ids
  in_room = let ok = sound_ok s.ids h.ids in omega arith

  -- what such steps give
  module _ (steps : List Step) (f : (reserved_count s.ids + size steps ≤ vacant s.ids) × LongEnough steps) where
    r : Reserved s (reserved_count s.ids) (size steps) (run steps s)
    r = run_granted h steps now f.0 f.1

    handed : demand.Handed s (map (handle_of s.ids) r.numbers)
    handed =
        record {
          different = λ i j. distinct_differ (map (handle_of s.ids) r.numbers) (handles_list h.ids (reserved_count s.ids) (reserved_count s.ids + size steps) f.0 r.lists).once i j;
          not_live = λ b x. fresh_not_live h.ids (reserved_count s.ids) (reserved_count s.ids + size steps) (number_in b) (one b x).0;
          not_reserved = λ b x.
              contains_is h b (λ z. gen_nonzero h.ids (number_in b) (sym (one b x).1 ∙ z))
              ∙ ap granted (fails (is_contained s.ids (generation_in b) (number_in b)) (λ e.
              ⊎_elim
              (λ (l : live s.ids (generation_in b) (number_in b) ≡ true). fresh_not_live h.ids (reserved_count s.ids) (reserved_count s.ids + size steps) (number_in b) (one b x).0 (live_lives s.ids h.ids (generation_in b) (number_in b) l).0)
              (λ (l : Handed s.ids (reserved_count s.ids) (generation_in b) (number_in b)). fresh_apart h.ids 0 (reserved_count s.ids) (reserved_count s.ids + size steps) (number_in b) l.0 (one b x).0)
              ((contained_then h.ids now (generation_in b) (number_in b)).0 e)));
        }
      where
        one : (b : ℕ) → Among b (map (handle_of s.ids) r.numbers) → Fresh s.ids (reserved_count s.ids) (reserved_count s.ids + size steps) (number_in b) × (generation_in b ≡ gen_of s.ids (number_in b))
        one = among_fresh h.ids (reserved_count s.ids) (reserved_count s.ids + size steps) f.0 r.lists

pub handles_differ : HandlesDiffer
handles_differ s h steps given t e =
    let f = fits h steps (now h) (in_room h) (sym e) in
    subst (λ (x : List ℕ × Store). demand.Handed s x.0) (same (sym (r h steps f).said_is ∙ e)) (handed h steps f)
  where
    same : {x y : List ℕ × Store} → granted x ≡ granted y → x ≡ y
    same p = cc
