-- The third demand is met.
-- Assumes nothing.
use Prim.{tt}
use Prim.Native.Nat.{ℕ, ◌+◌, ◌≤◌}
use native.Mathlib.Omega.{arith}
use native.Mathlib.Nat.{zero-add}
use mathlib.Core.Path.{◌≡◌, refl, sym, ap, ◌∙◌, subst}
use mathlib.Core.Logic.{◌⊎◌, inl, inr, ⊎_elim, ◌↔◌}
use mathlib.Core.Bool.{Bool, true, false}
use mathlib.Core.List.{List, [], ◌∷◌, ◌++◌, map}
use borrow.Author.Tests.{eqb-true, eqb-false}
use lib.Dec.{eqb}
use lib.IntN.{ℤ}
use lib.ListN.{length, drop, length-map}
use Rattle.refusal.specs.Table.{Answer, granted}
use Rattle.refusal.specs.Laws.{not_refused}
use Rattle.handle.specs.Bits.{generation_in, number_in}
use Rattle.id_tables.specs.Head.{free_of, flushed}
use Rattle.id_tables.specs.Ids.{Ids, live}
use Rattle.id_tables.proofs.Meaning.{flushed_free, flushed_new, flushed_contained}
use Rattle.id_tables.proofs.Laws.{counting_at}
use Rattle.ids.proofs.Passing.{flushed_room}
use Rattle.id_batches.specs.Reserve.{old_handles}
use Rattle.id_batches.specs.Flush.{reserved_count}
use Rattle.id_batches.specs.Freelist.{free_ones}
use Rattle.store_tables.specs.Store.{Store}
use Rattle.store_tables.specs.Rows.{archetype_of, row_of}
use Rattle.columns.proofs.Cells.{held_is}
use Rattle.store_reads.specs.Lookup.{containing, counting}
use Rattle.store_reads.proofs.Finding.{counting_is}
use Rattle.store_reserve.specs.Reserve.{listing_free}
use Rattle.store_reserve.proofs.Laws.{listing_free_at}
use Rattle.store_flush.specs.Flush.{flushing, with_reserved}
use Rattle.store_flush.proofs.Laws.{FlushOk, flushing_at, can_flush, flushed_bytes}
use Rattle.soundness.specs.Sound.{SoundIds, Sound}
use Rattle.soundness.proofs.Lists.{distinct_differ, mem_among}
use Rattle.soundness.proofs.Meaning.{sound_ok, part_whole, live_lives, lives_live}
use Rattle.soundness.proofs.Growing.{Grown, pending_is, live_is, same_generations, fresh_not_live}
use Rattle.soundness.proofs.Keeping.{flush_grown}
use Rattle.soundness.proofs.Handing.{vacant, After, after_count, handle_of, gen_nonzero}
use Rattle.soundness.proofs.Knowing.{Handed, none_new, live_then, live_other, new_kept, contained_other, got_other, grown_flushed, contained_then, contained_kept, got_kept, got_handed_new, got_handed_old}
use Rattle.soundness.proofs.Twice.{grown_cursor}
use Rattle.store_soundness.specs.Reads.{read_bytes}
use Rattle.store_soundness.proofs.Bridge.{sound_entered}
use Rattle.store_soundness.proofs.Reading.{read_same}
use Rattle.store_soundness.proofs.Holding.{same_there}
use Rattle.store_soundness.proofs.Batches.{flushed_sound}
use Rattle.demand_three.specs.Steps.{Step, single, batch, lookup, size, LongEnough, run, spawns}
use Rattle.demand_three.specs.Demand.{Ready, Among, Live, SameLookup, Waiting, Demand, ThirdDemand}
use Rattle.demand_three.proofs.Running.{store_at, at_sound, Reserved, run_granted}
use Rattle.demand_three.proofs.Spawning.{Spawned, spawns_granted}
use Rattle.demand_three.proofs.Looking.{contains_is, contains_zero, get_is, same_lookup, handles_list, among_fresh, fresh_among}

-- steps in two parts
size_two : (xs ys : List Step) → size (xs ++ ys) ≡ size xs + size ys
size_two [] ys = sym (zero-add (size ys))
size_two (single ∷ xs) ys = omega (arith, size_two xs ys)
size_two (batch n out ∷ xs) ys = omega (arith, size_two xs ys)
size_two (lookup ∷ xs) ys = size_two xs ys

long_first : (xs ys : List Step) → LongEnough (xs ++ ys) → LongEnough xs
long_first [] ys l = tt
long_first (single ∷ xs) ys l = long_first xs ys l
long_first (batch n out ∷ xs) ys l = (l.0, long_first xs ys l.1)
long_first (lookup ∷ xs) ys l = long_first xs ys l

-- a handle is live where the test of the calls says so
module _ {s : Store} (k : Sound s) (h : ℕ) where
  live_handle : Live s h → live s.ids (generation_in h) (number_in h) ≡ true
  live_handle l = lives_live s.ids k.ids (generation_in h) (number_in h) l.0 l.1

  handle_live : live s.ids (generation_in h) (number_in h) ≡ true → Live s h
  handle_live e = live_lives s.ids k.ids (generation_in h) (number_in h) e

module _ {s : Store} {n : ℕ} (r : Ready s n) where
  k : SoundIds s.ids
  k = r.sound.ids

  enough : n ≤ vacant s.ids
  enough = omega (arith, r.numbers, flushed_room s.ids r.nothing_reserved)

  start : After s.ids 0 s.ids.head.cursor
  start =
      record {
        free = omega (arith, flushed_free s.ids.head r.nothing_reserved);
        new = omega (arith, flushed_new s.ids.head r.nothing_reserved);
      }

  runs : (steps : List Step) → size steps ≤ n → LongEnough steps → Reserved s 0 (size steps) (run steps s)
  runs steps f l = run_granted r.sound steps start (omega (arith, enough)) l

  -- while steps have been taken
  module _ (steps : List Step) (f : size steps ≤ n) (l : LongEnough steps) where
    q : Reserved s 0 (size steps) (run steps s)
    q = runs steps f l

    after : After s.ids (size steps) q.cursor
    after = rw (zero-add (size steps)) at q.after

    so_far : size steps ≤ vacant s.ids
    so_far = omega (arith, enough)

    then_sound : Sound (store_at s q.cursor)
    then_sound = at_sound r.sound after so_far

    among_handed : (h : ℕ) → Among h (map (handle_of s.ids) q.numbers) → Handed s.ids (size steps) (generation_in h) (number_in h)
    among_handed h x = among_fresh k 0 (size steps) so_far (rw (zero-add (size steps)) at q.lists) h x

    handed_among : (h : ℕ) → Handed s.ids (size steps) (generation_in h) (number_in h) → Among h (map (handle_of s.ids) q.numbers)
    handed_among h x = fresh_among k 0 (size steps) so_far (rw (zero-add (size steps)) at q.lists) h x

    waits : Waiting s (map (handle_of s.ids) q.numbers) (store_at s q.cursor)
    waits =
        record {
          contained = λ h x. contains_is then_sound h (nonzero h x) ∙ ap granted ((contained_then k after (generation_in h) (number_in h)).1 (inr (among_handed h x)));
          got_new = λ h x u. get_is then_sound h (nonzero h x) ∙ got_handed_new k after (generation_in h) (number_in h) (among_handed h x) u;
          got_recycled = λ h x u. get_is then_sound h (nonzero h x) ∙ got_handed_old k after (generation_in h) (number_in h) (among_handed h x) u;
          others = λ h out.
              same_lookup r.sound then_sound h
              (contained_kept k after r.nothing_reserved (generation_in h) (number_in h) (λ x. out (handed_among h x)))
              (got_kept k after r.nothing_reserved (generation_in h) (number_in h) (λ x. out (handed_among h x)))
              (λ kind. read_same r.sound then_sound h kind refl (new_kept k after r.nothing_reserved (generation_in h) (number_in h) (λ x. out (handed_among h x))) (λ l. record { archetype_same = refl; held_same = λ j w. refl }));
        }
      where
        nonzero : (h : ℕ) → Among h (map (handle_of s.ids) q.numbers) → generation_in h ≡ 0 → ⊥
        nonzero h x e = gen_nonzero k (number_in h) (sym (among_handed h x).1 ∙ e)

  -- a store that n numbers have become live in
  module _ {t : Store} (sound : Sound t) (w : Grown s.ids n t.ids) where
    then_live : (h : ℕ) → Live t h ↔ (Live s h ⊎ Handed s.ids n (generation_in h) (number_in h))
    then_live h = (
      λ x. ⊎_elim (λ (e : live s.ids (generation_in h) (number_in h) ≡ true). inl (handle_live r.sound h e)) (λ (e : Handed s.ids n (generation_in h) (number_in h)). inr e) ((live_then k w (generation_in h) (number_in h)).0 (live_handle sound h x)),
      λ x. handle_live sound h ((live_then k w (generation_in h) (number_in h)).1 (⊎_elim (λ (e : Live s h). inl (live_handle r.sound h e)) (λ (e : Handed s.ids n (generation_in h) (number_in h)). inr e) x)),
    )

    then_same : (h : ℕ) → (Handed s.ids n (generation_in h) (number_in h) → ⊥) → ((kind : ℕ) → read_bytes t h kind ≡ read_bytes s h kind) → SameLookup s t h
    then_same h out reads =
        same_lookup r.sound sound h (contained_other k w r.nothing_reserved (generation_in h) (number_in h) out) (got_other k w r.nothing_reserved (generation_in h) (number_in h) out) reads

    then_count : counting t ≡ granted (s.ids.head.live + n)
    then_count = counting_is t sound.head_rule ∙ (counting_at t.ids sound.ids.head_rule ∙ ap granted (live_is w))

    -- its free list: what is left of pending, in order
    then_free : (out : List ℕ) → t.ids.head.pending ≤ length out
        → listing_free t out ≡ granted (free_of t.ids.head.cursor, old_handles t.ids.generations (free_ones t.ids) ++ drop (free_of t.ids.head.cursor) out)
    then_free out f =
        let ok = sound_ok t.ids sound.ids in
        listing_free_at t out sound.head_rule
        (record { ok = ok; places_in = omega arith; whole = part_whole t.ids sound.ids 0 (free_of t.ids.head.cursor) (omega arith) })

-- the free list goes by the head, the generations and the pending table
abbrev free_answer : Ids → List ℕ → Answer (ℕ × List ℕ)
free_answer i out = granted (free_of i.head.cursor, old_handles i.generations (free_ones i) ++ drop (free_of i.head.cursor) out)

free_alike : (t u : Ids) (out : List ℕ) → t.head ≡ u.head → t.generations ≡ u.generations → t.pending ≡ u.pending → free_answer t out ≡ free_answer u out
free_alike t u out eh eg ep = rw (eh, eg, ep)

-- with nothing reserved contains says yes of live handles alone
says : {s : Store} → Sound s → flushed s.ids.head ≡ true → (h : ℕ) → (containing s h ≡ granted true) ↔ Live s h
says {s} k f h = by (eqb (generation_in h) 0) refl
  where
    same_bool : {a b : Bool} → granted a ≡ granted b → a ≡ b
    same_bool e = cc

    by : (z : Bool) → eqb (generation_in h) 0 ≡ z → (containing s h ≡ granted true) ↔ Live s h
    by true z = (
      λ e. absurd (not_refused (sym e ∙ contains_zero k h z)),
      λ l. absurd (k.ids.generation_nonzero (number_in h) l.0.0 (l.1 ∙ eqb-true (generation_in h) 0 z)),
    )
    by false z =
        let c = contains_is k h (eqb-false (generation_in h) 0 z) ∙ ap granted (flushed_contained s.ids (generation_in h) (number_in h) f) in (
          λ e. handle_live k h (same_bool (sym c ∙ e)),
          λ l. c ∙ ap granted (live_handle k h l),
        )

same_answer : {x y : List ℕ × Store} → granted x ≡ granted y → x ≡ y
same_answer e = cc

-- all of it
module _ {s : Store} {n : ℕ} (r : Ready s n) (steps : List Step) (sum : size steps ≡ n) (long : LongEnough steps) where
  kk : SoundIds s.ids
  kk = r.sound.ids

  all : size steps ≤ n
  all = omega arith

  abbrev given : Reserved s 0 (size steps) (run steps s)
  given = q r steps all long

  abbrev c : ℤ
  c = given.cursor

  abbrev waiting : Store
  waiting = store_at s c

  fell : After s.ids (size steps) c
  fell = after r steps all long

  waiting_sound : Sound waiting
  waiting_sound = then_sound r steps all long

  -- the flush
  count_is : reserved_count waiting.ids ≡ n
  count_is = after_count fell ∙ sum

  can : FlushOk waiting
  can =
      record {
        no_word = r.no_borrow;
        rows_suffice = omega (arith, r.rows, count_is);
        whole = part_whole waiting.ids waiting_sound.ids (free_of c) s.ids.head.pending (omega arith);
      }

  flush_is : flushing waiting ≡ granted (tt, with_reserved waiting)
  flush_is = flushing_at waiting waiting_sound.head_rule can

  after_flush : Sound (with_reserved waiting)
  after_flush = flushed_sound waiting_sound can

  grown : Grown s.ids n (with_reserved waiting).ids
  grown =
      grown_cursor c
      (subst (λ (m : ℕ). Grown waiting.ids m (with_reserved waiting).ids) count_is (flush_grown waiting_sound.ids (can_flush waiting (sound_entered waiting_sound) can) 0))

  -- reads: no byte is changed, and no other number's place
  flush_reads : (h : ℕ) → (Handed s.ids n (generation_in h) (number_in h) → ⊥) → (kind : ℕ) → read_bytes (with_reserved waiting) h kind ≡ read_bytes s h kind
  flush_reads h out kind =
      let g = generation_in h in
      let m = number_in h in
      read_same r.sound after_flush h kind (live_other kk grown r.nothing_reserved g m out)
      (none_new (with_reserved waiting).ids g m (grown_flushed grown) ∙ sym (none_new s.ids g m r.nothing_reserved))
      (λ l. same_there (grown.place_same m (λ x. fresh_not_live kk 0 n m x (live_lives s.ids kk g m l).0))
      (λ j w. held_is s.decl (with_reserved waiting).rows (archetype_of s m) (row_of s m) j
      ∙ rw (flushed_bytes waiting (sound_entered waiting_sound) can) (sym (held_is s.decl s.rows (archetype_of s m) (row_of s m) j))))

  -- the spawns
  born : Spawned s n (spawns n s)
  born = spawns_granted n s r

  among : (h : ℕ) → Among h (map (handle_of s.ids) given.numbers) ↔ Handed s.ids n (generation_in h) (number_in h)
  among h = (
    λ x. subst (λ (m : ℕ). Handed s.ids m (generation_in h) (number_in h)) sum (among_handed r steps all long h x),
    λ x. handed_among r steps all long h (subst (λ (m : ℕ). Handed s.ids m (generation_in h) (number_in h)) (sym sum) x),
  )

  demand_met : Demand s n steps
  demand_met =
      record {
        handles = map (handle_of s.ids) given.numbers;
        reserved = waiting;
        flushed = with_reserved waiting;
        spawned = map (handle_of s.ids) born.numbers;
        direct = born.left;
        all_granted = given.said_is;
        flush_granted = flush_is;
        spawns_granted = born.said_is;
        n_handles = length-map given.numbers (handle_of s.ids) ∙ (given.count ∙ sum);
        different = λ i j h l. distinct_differ (map (handle_of s.ids) given.numbers)
            (handles_list kk 0 (size steps) (so_far r steps all long) (rw (zero-add (size steps)) at given.lists)).once i j h (rw (length-map given.numbers (handle_of s.ids), given.count, sum) l);
        not_live = λ h x. fresh_not_live kk 0 n (number_in h) ((among h).0 x).0;
        newly_live = λ h. (
          λ x. ⊎_elim (λ (e : Live s h). inl e) (λ (e : Handed s.ids n (generation_in h) (number_in h)). inr ((among h).1 e)) ((then_live r after_flush grown h).0 x),
          λ x. (then_live r after_flush grown h).1 (⊎_elim (λ (e : Live s h). inl e) (λ (e : Among h (map (handle_of s.ids) given.numbers)). inr ((among h).0 e)) x),
        );
        contains_says = λ h. says after_flush (grown_flushed grown) h;
        live_count = (counting_is s r.sound.head_rule ∙ counting_at s.ids kk.head_rule, then_count r after_flush grown);
        n_spawned = length-map born.numbers (handle_of s.ids) ∙ born.count;
        same_handles = λ h. (
          λ x. fresh_among kk 0 n (enough r) born.lists h ((among h).0 x),
          λ x. (among h).1 (among_fresh kk 0 n (enough r) born.lists h x),
        );
        same_generations = same_generations (sound_ok s.ids kk) grown born.grown;
        same_free_list = λ out f. free_same out f;
        same_live_count = then_count r after_flush grown ∙ sym (then_count r born.sound born.grown);
        others = λ h out. (
          then_same r after_flush grown h (λ x. out ((among h).1 x)) (flush_reads h (λ x. out ((among h).1 x))),
          then_same r born.sound born.grown h (λ x. out ((among h).1 x)) (λ kind. born.reads h (λ m. out ((among h).1 (among_fresh kk 0 n (enough r) born.lists h (mem_among h _ m)))) kind),
        );
        between = λ early late e had t said.
            let f : size early ≤ n = omega (arith, sum, ap size e, size_two early late) in
            let l : LongEnough early = long_first early late (rw (← e) at long) in
            let p = same_answer (sym (q r early f l).said_is ∙ said) in
            subst (λ (x : List ℕ × Store). Waiting s x.0 x.1) p (waits r early f l);
        reserved_sound = waiting_sound;
        flushed_sound = after_flush;
        direct_sound = born.sound;
      }
    where
      free_same : (out : List ℕ) → (with_reserved waiting).ids.head.pending ≤ length out → listing_free (with_reserved waiting) out ≡ listing_free born.left out
      free_same out f =
          let eh = grown.head_is ∙ sym born.grown.head_is in
          let eg = same_generations (sound_ok s.ids kk) grown born.grown in
          let ep = grown.pending_same ∙ sym born.grown.pending_same in
          let fits : born.left.ids.head.pending ≤ length out = omega (arith, pending_is grown, pending_is born.grown) in
          then_free r after_flush grown out f ∙ (free_alike (with_reserved waiting).ids born.left.ids out eh eg ep ∙ sym (then_free r born.sound born.grown out fits))

pub third_demand : ThirdDemand
third_demand s n r steps sum long = demand_met r steps sum long
