-- The steps of a spawn at: the old row leaves, and the id layer gives the number the row that it then takes, which no rule forbids.
-- Assumes nothing.
use Prim.{Unit, tt}
use Prim.Native.Nat.{ℕ}
use native.Mathlib.Omega.{arith}
use mathlib.Core.Path.{◌≡◌, refl, sym, ap, ◌∙◌}
use mathlib.Core.Bool.{false}
use mathlib.Core.List.{List}
use mathlib.Core.Option as rule
use Rattle.std.specs.Prelude.{Option, Result, Ok, Err}
use Rattle.std.specs.Result.{IsErrAnd}
use Rattle.std.proofs.lemmas.Result.{err_from_is_err_and}
use lib.ListN.{get_or}
use Rattle.refusal.specs.Number.{number_of}
use Rattle.refusal.specs.Table.{Answer, granted, refused, passing, left_of, Did}
use Rattle.refusal.specs.Laws.{past, halted, via, did_refused, not_refused}
use Rattle.refusal.specs.declared.Refusal.TheVariants.{ZeroGeneration}
use Rattle.refusal.specs.declared.Refusal.{Refusal}
use Rattle.handle.specs.Bits.{place_of, generation_in, number_in, handle_of, from_bits}
use Rattle.handle.specs.OnBits.{on_first, on_zero, on_good}
use Rattle.handle.specs.RoundTrip.{from_bits_nonzero, good}
use Rattle.handle.specs.declared.Handle.{Handle}
use Rattle.handle.specs.declared.Number.{Number}
use Rattle.handle.specs.declared.Place.{Place}
use Rattle.id_tables.specs.declared.head.Head.{Head}
use Rattle.id_tables.specs.Ids.{Ids, ids_of, capacity}
use Rattle.id_tables.proofs.Meaning.{ok_passes}
use Rattle.ids.specs.Answers.{chosen_of}
use Rattle.ids.specs.AllocAt.{allocated_at, allocating_at}
use Rattle.ids.proofs.Passing.{ChosenOk}
use Rattle.ids.proofs.Laws.{Undoubted, choosing_at}
use Rattle.decl.specs.Decl.{sizes_of}
use Rattle.decl.specs.Places.{span_of}
use Rattle.decl.specs.declared.Span.{Span}
use Rattle.row_step.specs.Tables.{Rows, count_of}
use Rattle.row_step.specs.declared.Block.{Block}
use Rattle.column_entry.specs.Entry.{span_in, block_in}
use Rattle.column_entry.proofs.Keeping.{span_kept}
use Rattle.store_steps.proofs.Laws.{block_by_lem, sizes_by}
use Rattle.store_steps.specs.Parts.{block_by, part_by}
use Rattle.store_steps.specs.Seats.{Seats, seats_of, vacated_seats, seated_rows}
use Rattle.store_tables.proofs.Entering.{entered}
use Rattle.store_tables.specs.Run.{run_wrong}
use Rattle.store_tables.specs.Store.{Store, store_of, entry}
use Rattle.store_tables.specs.Rows.{archetype_of, row_of}
use Rattle.store_tables.specs.Kept.{Entered}
use Rattle.store_tables.proofs.Places.{owns_means, vacating}
use Rattle.store_spawn_at.specs.declared.Standing.{Standing}
use Rattle.store_spawn_at.specs.declared.Standing.TheVariants.{Free, Damaged, Seated, Astray}
use Rattle.store_spawn_at.specs.SpawnAt.{chosen_live, without_old, spawn_at_rules, row_taken, spawned_at, spawning_at}
use Rattle.store_spawn_at.specs.Seen.{Stands, Chooses, astray, cleared_seats, Reseats, Settles, Picks}
use Rattle.store_spawn_at.proofs.Laws.{SpawnAtOk, spawn_at_ok, old_left, none_left, way_made, can_choose, still_undoubted}
use Rattle.store_spawn_at.proofs.Testing.{differ, not_astray}

-- the way that is made: a live number's old row leaves, of another number none
module _ (s : Store) (n : ℕ) (e : Entered s) where
  module _ (archetypes indices : List ℕ) (w : Rows) where
    abbrev after : Store
    after = store_of s.decl (ids_of s.ids.head s.ids.generations archetypes indices s.ids.pending) w s.words

    abbrev before : Seats
    before = seats_of s.ids.archetypes s.ids.indices s.rows

    no_row_left : seats_of archetypes indices w ≡ before → chosen_live s.ids n ≡ false → after ≡ without_old s n
    no_row_left p l =
        rw (none_left s n l, ap (λ (t : Seats). t.archetypes) p, ap (λ (t : Seats). t.indices) p, ap (λ (t : Seats). t.rows) p)

    pub way_is : (st : Standing) → Stands s n st → astray st ≡ false → seats_of archetypes indices w ≡ cleared_seats s.decl.rows s.decl.sizes before st → after ≡ without_old s n
    unfolding Stands cleared_seats
    way_is Free k q p = no_row_left p k.0
    way_is Damaged k q p = no_row_left p k.0
    way_is (Seated span place) k q p =
        let a = archetype_of s n in
        vacating s a (row_of s n) archetypes indices w (owns_means s n k.1).row_in (e.rows.counts_in a)
        (p ∙ rw (k.3, block_by_lem s.decl a span k.2, sizes_by s.decl a span k.2))
        ∙ sym (old_left s n k.0)
    way_is Astray k q p = absurd (differ q)

-- what `make_way`, `reseat` and `settle` do
pub old_leaves : (rows sizes : List ℕ) (t u : Seats) (st : Standing) (span : Span) (place : Place) → st ≡ Seated span place
    → u ≡ vacated_seats (block_by rows span place.archetype) (part_by sizes span) t place.archetype place.index.0 → u ≡ cleared_seats rows sizes t st
unfolding cleared_seats
old_leaves rows sizes t u st span place p v = rw p v

pub none_leaves : (rows sizes : List ℕ) (t : Seats) (st : Standing) → ((span : Span) → (place : Place) → st ≡ Seated span place → ⊥) → t ≡ cleared_seats rows sizes t st
unfolding cleared_seats
none_leaves rows sizes t Free h = refl
none_leaves rows sizes t Damaged h = refl
none_leaves rows sizes t (Seated span place) h = absurd (h span place refl)
none_leaves rows sizes t Astray h = refl

module _ (k : Block) (sizes : List ℕ) (t : Seats) (a : ℕ) (run : List ℕ) where
  pub reseats : (n : ℕ) (archetypes indices : List ℕ) (v w : Rows) (count : ℕ) → seats_of archetypes indices v ≡ t → count ≡ get_or v.counts a 0
      → w ≡ seated_rows k sizes v a n run → Reseats k sizes t a n run (place_of a count) (seats_of archetypes indices w)
  reseats n archetypes indices v w count e c q = rw (← e) (record { seats_are = rw q; place_is = rw c })

  pub settles : (n bits : ℕ) (archetypes indices generations pending : List ℕ) (w : Rows) (place : Place) (head : Head) (said : Result (Option Place) Refusal) (i : Ids)
      → Reseats k sizes t a n run place (seats_of archetypes indices w)
      → Did (allocating_at (ids_of head generations archetypes indices pending) bits place) (ids_of head generations archetypes indices pending) (chosen_of said) i
      → Settles k sizes t head generations pending a bits n run said i w
  settles n bits archetypes indices generations pending w place head said i q d =
      let x : archetypes ≡ t.archetypes = ap (λ (u : Seats). u.archetypes) q.seats_are in
      let y : indices ≡ t.indices = ap (λ (u : Seats). u.indices) q.seats_are in
      record { settles = rw (x, y, q.place_is) at d; rows_are = ap (λ (u : Seats). u.rows) q.seats_are }

-- the number takes the row, where the id layer grants it that, and it does not refuse
module _ (s : Store) (h a : ℕ) (e : Entered s) (nz : generation_in h ≡ 0 → ⊥) (c : ChosenOk s.ids.head (capacity s.ids) (place_of a (count_of s.rows a)) (number_in h))
    (u : Undoubted s.ids (number_in h)) where
  abbrev settled : rule.Option Place × Ids
  settled = allocated_at s.ids (place_of a (count_of s.rows a)) (generation_in h) (number_in h)

  allows : allocating_at s.ids h (place_of a (count_of s.rows a)) ≡ granted settled
  allows = choosing_at s.ids (place_of a (count_of s.rows a)) h (record { passes = sym (ok_passes s.ids e.ids); nonzero = nz }) c u

  gives : {m : ℕ} {i : Ids} → Did (allocating_at s.ids h (place_of a (count_of s.rows a))) s.ids (refused m) i → ⊥
  gives d = not_refused (sym allows ∙ (did_refused (allocating_at s.ids h (place_of a (count_of s.rows a))) d).0)

  has_taken : (span : Span) → span ≡ span_of s.decl a → (run : List ℕ) (w : Rows) {v : rule.Option Place} {i : Ids}
      → w ≡ seated_rows (block_by s.decl.rows span a) (part_by s.decl.sizes span) s.rows a (number_in h) run
      → Did (allocating_at s.ids h (place_of a (count_of s.rows a))) s.ids (granted v) i
      → Did (row_taken s a run (generation_in h) (number_in h)) s (granted tt) (store_of s.decl i w s.words)
  has_taken span p run w {i = i} ew d =
      let ids : i ≡ settled.1 = d.leaves ∙ ap (λ (z : Answer (rule.Option Place × Ids)). left_of z s.ids) allows in
      let seats : w ≡ seated_rows (block_in s.decl a) (sizes_of s.decl a) s.rows a (number_in h) run =
      rw (block_by_lem s.decl a span p, sizes_by s.decl a span p) at ew in
      record { answer = refl; leaves = rw (ids, seats) }

-- the tests of the number, as the code has run them
module _ (s : Store) (a n n' : ℕ) (en : n' ≡ n) where
  pub refuses : (x : Refusal) → refused (number_of x) ≡ passing (spawn_at_rules s a n') → Chooses s a n (Err x)
  unfolding Chooses
  refuses x e = rw en at e

  pub grants : (number : Number) → number.0 ≡ n → (st : Standing) → Stands s n' st → granted tt ≡ passing (spawn_at_rules s a n') → Chooses s a n (Ok (number, st))
  unfolding Chooses
  grants number i st k e = (rw en at k, rw en at e, i)

module _ (s : Store) (a n : ℕ) where
  number_refuses : (run : List ℕ) (g : ℕ) (x : Refusal) → Chooses s a n (Err x) → spawned_at s a run g n ≡ refused (number_of x)
  unfolding spawned_at Chooses
  number_refuses run g x k = halted (spawn_at_rules s a n) _ k

  module _ (chosen : Number × Standing) (k : Chooses s a n (Ok chosen)) where
    goes : (run : List ℕ) (g : ℕ) → spawned_at s a run g n ≡ row_taken (without_old s n) a run g n
    unfolding spawned_at Chooses
    goes run g = past (spawn_at_rules s a n) _ k.1

    stands : Stands s n chosen.1
    unfolding Chooses
    stands = k.0

    no_stray : astray chosen.1 ≡ false
    unfolding Chooses
    no_stray = not_astray s a n chosen.1 k.0 k.1

    ok : SpawnAtOk s a n
    unfolding Chooses
    ok = spawn_at_ok s a n k.1

    number_is : chosen.0.0 ≡ n
    unfolding Chooses
    number_is = k.2

    span_is : (span : Span) → Entered s → span ≡ span_in s.decl a → span ≡ span_of s.decl a
    span_is span e p = p ∙ span_kept s.decl a e.rows.tabled.kept (omega (arith, ok.archetype_in))

-- in store t, the way that was made
module _ (s : Store) (a n : ℕ) (e : Entered s) (k : SpawnAtOk s a n) (t : Store) (q : t ≡ without_old s n) where
  enters : Entered t
  enters = rw q (way_made s a n e k).entered

  may_choose : ChosenOk t.ids.head (capacity t.ids) (place_of a (count_of t.rows a)) n
  may_choose = rw q (can_choose s a n e k)

  no_doubt : Undoubted t.ids n
  no_doubt = rw q (still_undoubted s a n e k)

  -- what is done to it is done to the store
  has_spawned : (run : List ℕ) (g : ℕ) {said : Answer (Unit {0})} {left : Store} → Did (row_taken t a run g n) t said left → Did (row_taken (without_old s n) a run g n) s said left
  has_spawned run g d = record { answer = d.answer; leaves = rw (← q) d.leaves }

module _ (s : Store) (h a : ℕ) (e : Entered s) (nz : generation_in h ≡ 0 → ⊥) (chosen : Number × Standing) (k : Chooses s a (number_in h) (Ok chosen)) (span : Span)
    (p : span ≡ span_in s.decl a) where
  abbrev cleared : Seats
  cleared = cleared_seats s.decl.rows s.decl.sizes (seats_of s.ids.archetypes s.ids.indices s.rows) chosen.1

  abbrev t : Store
  t = store_of s.decl (ids_of s.ids.head s.ids.generations cleared.archetypes cleared.indices s.ids.pending) cleared.rows s.words

  way : t ≡ without_old s (number_in h)
  way = way_is s (number_in h) e cleared.archetypes cleared.indices cleared.rows chosen.1 (stands s a (number_in h) chosen k) (no_stray s a (number_in h) chosen k) refl

  module _ (run : List ℕ) (i : Ids) (w : Rows) where
    abbrev SettlesSo : Result (Option Place) Refusal → Type 0
    SettlesSo said = Settles (block_by s.decl.rows span a) (part_by s.decl.sizes span) cleared s.ids.head s.ids.generations s.ids.pending a h chosen.0.0 run said i w

    settles_not : (x : Refusal) → SettlesSo (Err x) → ⊥
    settles_not x l =
        let f = ok s a (number_in h) chosen k in
        gives t h a (enters s a (number_in h) e f t way) nz (may_choose s a (number_in h) e f t way) (no_doubt s a (number_in h) e f t way) l.settles

    has_settled : (o : Option Place) → SettlesSo (Ok o) → Did (row_taken (without_old s (number_in h)) a run (generation_in h) (number_in h)) s (granted tt) (store_of s.decl i w s.words)
    has_settled o l =
        let f = ok s a (number_in h) chosen k in
        has_spawned s a (number_in h) e f t way run (generation_in h)
        (has_taken t h a (enters s a (number_in h) e f t way) nz (may_choose s a (number_in h) e f t way) (no_doubt s a (number_in h) e f t way) span (span_is s a (number_in h) chosen k span e p) run w
        (rw (number_is s a (number_in h) chosen k) at l.rows_are) l.settles)

-- what is found of a handle's bits, and what the steps then leave
module _ (s : Store) (bits a : ℕ) (run : List ℕ) where
  pub refused_so : (x : Refusal) → Picks s bits a run (Err x) → spawning_at s bits a run ≡ refused (number_of x)
  unfolding Picks
  refused_so x f = f

  pub handed_so : (r : Result (Number × Standing) Refusal) (x : Refusal) → IsErrAnd r (λ y. y ≡ x) → spawning_at s bits a run ≡ refused (number_of x) → Picks s bits a run r
  unfolding Picks
  handed_so r x h e = let p = err_from_is_err_and r h in rw (p.1, p.2) e

  pub first_refuse : {m : ℕ} → refused m ≡ passing (entry s (run_wrong s.decl a run)) → spawning_at s bits a run ≡ refused m
  unfolding spawning_at
  first_refuse e = on_first _ _ _ e

  module _ (e : granted tt ≡ passing (entry s (run_wrong s.decl a run))) (r : Result Handle Refusal) (q : handle_of r ≡ from_bits bits) where
    pub refused_zero : (x : Refusal) → r ≡ Err x → Picks s bits a run (Err ZeroGeneration)
    unfolding Picks spawning_at
    refused_zero x p = on_zero _ _ _ r x e q p

    pub number_found : (h : Handle) → r ≡ Ok h → (c : Result (Number × Standing) Refusal) → Chooses s a (number_in h.0) c → Picks s bits a run c
    unfolding Picks spawning_at
    number_found h p (Err x) k = on_good _ _ _ r h e q p ∙ number_refuses s a (number_in h.0) run (generation_in h.0) x k
    number_found h p (Ok chosen) k =
        let i = (good bits r h q p).0 in
        let f : spawned_at s a run (generation_in h.0) (number_in h.0) ≡ row_taken (without_old s (number_in h.0)) a run (generation_in h.0) (number_in h.0) =
        goes s a (number_in h.0) chosen k run (generation_in h.0) in
        (entered s _ e, rw i at (from_bits_nonzero bits h (sym (ap handle_of p) ∙ q)), rw i at k, rw i at (on_good (entry s (run_wrong s.decl a run)) bits (spawned_at s a run) r h e q p ∙ f))

  module _ (number : Number) (st : Standing) (f : Picks s bits a run (Ok (number, st))) (span : Span) (p : span ≡ span_in s.decl a) (i : Ids) (w : Rows) where
    abbrev pub SettlesThere : Result (Option Place) Refusal → Type 0
    SettlesThere said =
        Settles (block_by s.decl.rows span a) (part_by s.decl.sizes span) (cleared_seats s.decl.rows s.decl.sizes (seats_of s.ids.archetypes s.ids.indices s.rows) st)
        s.ids.head s.ids.generations s.ids.pending a bits number.0 run said i w

    pub refuses_not : (x : Refusal) → SettlesThere (Err x) → ⊥
    unfolding Picks
    refuses_not x l = settles_not s bits a f.0 f.1 (number, st) f.2 span p run i w x l

    pub spawns : (o : Option Place) → SettlesThere (Ok o) → Did (spawning_at s bits a run) s (granted tt) (store_of s.decl i w s.words)
    unfolding Picks
    spawns o l = via f.3 (has_settled s bits a f.0 f.1 (number, st) f.2 span p run i w o l)
