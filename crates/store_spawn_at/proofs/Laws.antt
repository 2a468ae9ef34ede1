-- What spawn at grants and leaves, for callers that do not open its rule.
-- Assumes nothing.
use Prim.{Unit, tt}
use Prim.Native.Nat.{ℕ, ◌<◌, ◌≤◌}
use native.Mathlib.Omega.{arith}
use mathlib.Core.Path.{◌≡◌, refl, sym, ap, ◌∙◌}
use mathlib.Core.Bool.{Bool, true, false, not, ◌&&◌}
use mathlib.Core.List.{List}
use mathlib.Core.Option.{Option}
use lib.Dec.{ltb}
use borrow.Author.Tests.{lt-ltb, le-ltb, lt-leb, ne_eqb, ltb-true, ltb-false, leb-false, eqb-false, not-true, not-false}
use Rattle.refusal.specs.Table.{granted, passing, ◌or_else◌}
use Rattle.refusal.specs.Laws.{passed_all, none_holds, past}
use Rattle.handle.specs.Bits.{MAX, place_of, generation_in, number_in}
use Rattle.handle.specs.OnBits.{on_rest, on_granted}
use Rattle.handle.specs.declared.Place.{Place}
use Rattle.borrow_word.specs.Slice.{any_held}
use Rattle.id_tables.specs.Head.{flushed}
use Rattle.id_tables.specs.Ids.{Ids, capacity, index_at, place_at, live}
use Rattle.refusal.specs.Truth.{and_parts}
use Rattle.ids.specs.Alloc.{settled}
use Rattle.ids.specs.AllocAt.{pending_at, is_pending, stretched, taken_out}
use Rattle.ids.proofs.Passing.{ChosenOk}
use Rattle.ids.proofs.Listing.{below_or_not}
use Rattle.ids.proofs.Leaving.{Settled}
use Rattle.ids.proofs.Laws.{Undoubted, chosen_good, good_chosen, at_past, at_pending, at_live, chosen_leaves}
use Rattle.decl.specs.Decl.{archetypes, rows_of}
use Rattle.row_step.specs.Tables.{count_of}
use Rattle.store_tables.specs.Store.{Store, with_ids, entry}
use Rattle.store_tables.specs.Rows.{archetype_of, row_of, owns, moved_damaged, vacated, seated}
use Rattle.store_tables.specs.Run.{run_wrong}
use Rattle.store_tables.specs.Kept.{Entered}
use Rattle.store_tables.proofs.Places.{owns_means}
use Rattle.store_tables.proofs.Vacating.{Vacates, vacates, vacated_decl, vacated_words, moving, owner_stays}
use Rattle.store_tables.proofs.Remaining.{remains_entered}
use Rattle.store_spawn_at.specs.SpawnAt.{chosen_live, without_old, spawn_at_rules, with_chosen, row_taken, spawned_at, spawning_at}

-- the chosen number is live: below used, not pending, with a place
pub record ChosenLive (s : Ids) (n : ℕ) : Type 0 where
  pub below : n < s.head.used
  pub not_pending : s.head.pending ≤ pending_at s n
  pub placed : index_at s n ≡ MAX → ⊥

module _ (s : Ids) (n : ℕ) where
  pub live_means : chosen_live s n ≡ true → ChosenLive s n
  unfolding chosen_live
  live_means e =
      let p = and_parts (ltb n s.head.used) _ e in
      let q = and_parts (not (is_pending s n)) _ p.1 in
      record { below = ltb-true _ _ p.0; not_pending = ltb-false _ _ (not-true _ q.0); placed = eqb-false _ _ (not-true _ q.1) }

  pub means_live : ChosenLive s n → chosen_live s n ≡ true
  unfolding chosen_live
  means_live k = simp (lt-ltb _ _ k.below, le-ltb _ _ k.not_pending, ne_eqb _ _ k.placed)

  -- a number that was never used, or is pending, is not live
  pub past_not_chosen : s.head.used ≤ n → chosen_live s n ≡ false
  unfolding chosen_live
  past_not_chosen h = simp (le-ltb _ _ h)

  pub pending_not_chosen : n < s.head.used → pending_at s n < s.head.pending → chosen_live s n ≡ false
  unfolding chosen_live
  pending_not_chosen h k = simp (lt-ltb _ _ h, lt-ltb _ _ k)

  -- and an undoubted number is one of the three
  pub one_of_three : {P : Type 0} → Undoubted s n → (s.head.used ≤ n → P) → (n < s.head.used → pending_at s n < s.head.pending → P) → (chosen_live s n ≡ true → P) → P
  one_of_three u f g h =
      below_or_not n s.head.used
      (λ b. below_or_not (pending_at s n) s.head.pending (λ p. g b p) (λ p. h (means_live (record { below = b; not_pending = p; placed = u.placed_good b p }))))
      f

-- what passing the tests of a spawn at gives, beyond the first
pub record SpawnAtOk (s : Store) (a n : ℕ) : Type 0 where
  pub is_flushed : flushed s.ids.head ≡ true
  pub archetype_in : a < archetypes s.decl
  pub own : chosen_live s.ids n ≡ true → owns s n ≡ true
  pub no_word : any_held s.words ≡ false
  pub number_in_lem : n < capacity s.ids
  pub row_unused : count_of (without_old s n).rows a < rows_of s.decl a
  pub undoubted : Undoubted s.ids n
  pub moved_good : chosen_live s.ids n ≡ true → moved_damaged s (archetype_of s n) (row_of s n) ≡ false

only_if : (b c : Bool) → (b ≡ true → c ≡ false) → (b && c) ≡ false
only_if true c h = h refl
only_if false c h = refl

module _ (s : Store) (a n : ℕ) where
  pub spawn_at_ok : granted tt ≡ passing (spawn_at_rules s a n) → SpawnAtOk s a n
  unfolding spawn_at_rules
  spawn_at_ok e =
      let p = none_holds _ e in
      record {
        is_flushed = not-false _ p.0;
        archetype_in = leb-false _ _ p.1.0;
        own = λ l. not-false _ (rw l at p.1.1.0);
        no_word = p.1.1.1.0;
        number_in_lem = leb-false _ _ p.1.1.1.1.0;
        row_unused = leb-false _ _ p.1.1.1.1.1.0;
        undoubted = chosen_good s.ids n p.1.1.1.1.1.1.0;
        moved_good = λ l. rw l at p.1.1.1.1.1.1.1.0;
      }

  pub ok_spawn_at : SpawnAtOk s a n → granted tt ≡ passing (spawn_at_rules s a n)
  unfolding spawn_at_rules ◌or_else◌
  ok_spawn_at k =
      rw (k.is_flushed, lt-leb _ _ k.archetype_in, only_if (chosen_live s.ids n) (not (owns s n)) (λ l. ap not (k.own l)), k.no_word, lt-leb _ _ k.number_in_lem, lt-leb _ _ k.row_unused, good_chosen s.ids n k.undoubted, only_if (chosen_live s.ids n) (moved_damaged s (archetype_of s n) (row_of s n)) k.moved_good)

-- what is granted, and when
module _ (s : Store) (a : ℕ) (run : List ℕ) where
  pub spawned_at_parts : (g n : ℕ) {x : Unit {0} × Store} → granted x ≡ spawned_at s a run g n
      → SpawnAtOk s a n × (granted x ≡ row_taken (without_old s n) a run g n)
  unfolding spawned_at
  spawned_at_parts g n e = let p = passed_all (spawn_at_rules s a n) _ e in (spawn_at_ok s a n p.0, p.1)

  pub spawned_at_at : (g n : ℕ) → SpawnAtOk s a n → spawned_at s a run g n ≡ row_taken (without_old s n) a run g n
  unfolding spawned_at
  spawned_at_at g n k = past (spawn_at_rules s a n) _ (ok_spawn_at s a n k)

  pub spawning_at_parts : (bits : ℕ) {x : Unit {0} × Store} → granted x ≡ spawning_at s bits a run
      → (granted tt ≡ passing (entry s (run_wrong s.decl a run))) × (generation_in bits ≡ 0 → ⊥) × SpawnAtOk s a (number_in bits) × (granted x ≡ row_taken (without_old s (number_in bits)) a run (generation_in bits) (number_in bits))
  unfolding spawning_at
  spawning_at_parts bits e =
      let p = on_granted _ _ _ e in
      let q = spawned_at_parts _ _ p.2 in
      (p.0, p.1, q.0, q.1)

  pub spawning_at_at : (bits : ℕ) → granted tt ≡ passing (entry s (run_wrong s.decl a run)) → (generation_in bits ≡ 0 → ⊥) → SpawnAtOk s a (number_in bits)
      → spawning_at s bits a run ≡ row_taken (without_old s (number_in bits)) a run (generation_in bits) (number_in bits)
  unfolding spawning_at
  spawning_at_at bits e nz k = on_rest _ _ _ e nz ∙ spawned_at_at _ _ k

-- the store without the old row
module _ (s : Store) (n : ℕ) where
  pub old_left : chosen_live s.ids n ≡ true → without_old s n ≡ vacated s (archetype_of s n) (row_of s n)
  unfolding without_old
  old_left e = rw e

  pub none_left : chosen_live s.ids n ≡ false → without_old s n ≡ s
  unfolding without_old
  none_left e = rw e

-- store t, in which number n has no row, or its old one no more
pub record WayMade (s : Store) (n : ℕ) (t : Store) : Type 0 where
  pub entered : Entered t
  pub decl_kept : t.decl ≡ s.decl
  pub words_kept : t.words ≡ s.words
  pub head_kept : t.ids.head ≡ s.ids.head
  pub generations_kept : t.ids.generations ≡ s.ids.generations
  pub pending_kept : t.ids.pending ≡ s.ids.pending
  pub place_kept : place_at t.ids n ≡ place_at s.ids n
  pub live_kept : (h m : ℕ) → live t.ids h m ≡ live s.ids h m

module _ (s : Store) (a n : ℕ) (e : Entered s) (k : SpawnAtOk s a n) where
  pub vacates_old : chosen_live s.ids n ≡ true → Vacates s (archetype_of s n) (row_of s n)
  vacates_old l = vacates s (archetype_of s n) (row_of s n) e (owns_means s n (k.own l)).row_in (k.moved_good l)

  way_from : chosen_live s.ids n ≡ true → WayMade s n (vacated s (archetype_of s n) (row_of s n))
  way_from l =
      let v = vacates_old l in
      let o = owns_means s n (k.own l) in
      record {
        entered = remains_entered s (archetype_of s n) (row_of s n) e o.archetype_in o.row_in (k.moved_good l);
        decl_kept = vacated_decl s (archetype_of s n) (row_of s n);
        words_kept = vacated_words s (archetype_of s n) (row_of s n);
        head_kept = v.head_kept;
        generations_kept = v.generations_kept;
        pending_kept = v.pending_kept;
        place_kept = v.other_place n (λ f q. owner_stays s n f (moving s (archetype_of s n) (row_of s n) (k.moved_good l) f) q);
        live_kept = v.live_kept;
      }

  pub way_made : WayMade s n (without_old s n)
  way_made = by (chosen_live s.ids n) refl
    where
      by : (b : Bool) → chosen_live s.ids n ≡ b → WayMade s n (without_old s n)
      by true l = rw (old_left s n l) (way_from l)
      by false l =
          rw (none_left s n l)
          (record { entered = e; decl_kept = refl; words_kept = refl; head_kept = refl; generations_kept = refl; pending_kept = refl; place_kept = refl; live_kept = λ h m. refl })

  -- there the id layer grants the number the first unused row
  abbrev without : Ids
  without = (without_old s n).ids

  abbrev place : Place
  place = place_of a (count_of (without_old s n).rows a)

  pub can_choose : ChosenOk without.head (capacity without) place n
  can_choose =
      record {
        is_flushed = rw way_made.head_kept k.is_flushed;
        index_in = omega (arith, k.row_unused, e.rows.tabled.kept.declared.shaped.rows_in a);
        number_in_lem = rw way_made.generations_kept k.number_in_lem;
      }

  same_index : index_at without n ≡ index_at s.ids n
  same_index = ap (λ (p : Place). p.index.0) way_made.place_kept

  pub still_undoubted : Undoubted without n
  still_undoubted =
      record {
        pending_good = λ h j.
            let u = k.undoubted.pending_good (rw way_made.head_kept at h) (rw (way_made.head_kept, way_made.pending_kept) at j) in
            record { below = h; generation = rw way_made.generations_kept u.generation; index = same_index ∙ u.index };
        placed_good = λ h j q. k.undoubted.placed_good (rw way_made.head_kept at h) (rw (way_made.head_kept, way_made.pending_kept) at j) (sym same_index ∙ q);
      }

  -- and settles it there
  pub chosen_settles : (g : ℕ) (run : List ℕ) → Settled without n g place (with_chosen (without_old s n) a run g n).ids
  chosen_settles g run = chosen_leaves without place g n way_made.entered.ids can_choose still_undoubted

-- what is left in each of the three cases
module _ (s : Store) (a : ℕ) (run : List ℕ) (g n : ℕ) where
  abbrev row : Store → Place
  row t = place_of a (count_of t.rows a)

  pub left_past : s.ids.head.used ≤ n → with_chosen (without_old s n) a run g n ≡ with_ids (seated s a n run) (settled (stretched s.ids n) n g (row s))
  left_past h = rw (none_left s n (past_not_chosen s.ids n h), at_past s.ids (row s) g n h)

  pub left_pending : n < s.ids.head.used → pending_at s.ids n < s.ids.head.pending
      → with_chosen (without_old s n) a run g n ≡ with_ids (seated s a n run) (settled (taken_out s.ids n) n g (row s))
  left_pending h k = rw (none_left s n (pending_not_chosen s.ids n h k), at_pending s.ids (row s) g n h k)

  pub left_live : (t : Store) → t ≡ vacated s (archetype_of s n) (row_of s n) → Entered s → SpawnAtOk s a n → chosen_live s.ids n ≡ true
      → with_chosen (without_old s n) a run g n ≡ with_ids (seated t a n run) (settled t.ids n g (row t))
  left_live t q e k l =
      let w : WayMade s n t = rw q (way_from s a n e k l) in
      let c = live_means s.ids n l in
      rw (old_left s n l, ← q)
      (ap (λ (x : Option Place × Ids). with_ids (seated t a n run) x.1) (at_live t.ids (row t) g n (rw w.head_kept c.below) (rw (w.head_kept, w.pending_kept) c.not_pending)))
