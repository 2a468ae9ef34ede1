-- What a step leaves: the head rule kept, the number that it touched, and every other number as it was.
-- Assumes nothing.
use Prim.Native.Nat.{ℕ, ◌+◌, ◌-◌, ◌<◌, ◌≤◌}
use mathlib.Core.Path.{◌≡◌, refl, sym, ◌∙◌}
use mathlib.Core.Bool.{Bool, true, false, cond}
use mathlib.Core.List.{List}
use native.Mathlib.Omega.{arith}
use borrow.Author.Tests.{eqb-true, eqb-false, lt-ltb, le-ltb}
use lib.Dec.{ltb, eqb}
use lib.ListN.{length, get_or, replicate, length-set, length-replicate, get_or-replicate}
use lib.Seq.{sets, get_or-set_same, get_or-set_other, set-get_or, length-sets}
use Rattle.handle.specs.Bits.{MAX, place_of}
use Rattle.handle.specs.declared.Place.{Place}
use Rattle.id_tables.specs.declared.head.Head.{Head}
use Rattle.id_tables.specs.Head.{flushed, flushed_head}
use Rattle.id_tables.specs.Ids.{Ids, ids_of, capacity, generation_at, index_at, place_at, placed, live, EntryOk}
use Rattle.id_tables.specs.Runs.{up_from, length_up_from, up_from_at}
use Rattle.id_tables.proofs.Meaning.{head_flushed, is_live, past_not_live, empty_not_live, live_same}
use Rattle.ids.specs.Alloc.{last_pending, settled, grown}
use Rattle.ids.specs.AllocAt.{pending_at, gap, stretched, taken_out}
use Rattle.ids.specs.Free.{next_generation, freed_ids}
use Rattle.ids.proofs.Listing.{below_or_not, sets_before, sets_at}

-- number m is as it was: live at the same generations, and where it was used, with the same generation and place
pub record Kept (s t : Ids) (m : ℕ) : Type 0 where
  pub live_kept : (h : ℕ) → live t h m ≡ live s h m
  pub generation_kept : m < s.head.used → generation_at t m ≡ generation_at s m
  pub place_kept : m < s.head.used → place_at t m ≡ place_at s m

-- number n is live with this generation at this place, and every other number is as it was
pub record Settled (s : Ids) (n g : ℕ) (place : Place) (t : Ids) : Type 0 where
  pub ok : EntryOk t
  pub is_flushed : flushed t.head ≡ true
  pub below : n < t.head.used
  pub generation_is : generation_at t n ≡ g
  pub place_is : place_at t n ≡ place
  pub lives : live t g n ≡ true
  pub others : (m : ℕ) → (m ≡ n → ⊥) → Kept s t m

-- counts that keep the head rule, over tables as long as before
pub counts_ok : (s : Ids) (used pending live : ℕ) (g a x p : List ℕ) → EntryOk s → length g ≡ length s.generations
    → length a ≡ length s.archetypes → length x ≡ length s.indices → length p ≡ length s.pending
    → used ≤ capacity s → pending ≤ used → live ≡ used - pending → EntryOk (ids_of (flushed_head used pending live) g a x p)
counts_ok s used pending live g a x p ok eg ea ex ep u c l =
    record {
      small = omega arith;
      archetypes_long = ea ∙ ok.archetypes_long ∙ sym eg;
      indices_long = ex ∙ ok.indices_long ∙ sym eg;
      pending_long = ep ∙ ok.pending_long ∙ sym eg;
      used_in = omega arith;
      pending_in = c;
      free_in = omega arith;
      new_in = omega arith;
      live_is = l;
    }

-- a number that was not used, and is not live
pub unused_kept : (s t : Ids) (m : ℕ) → s.head.used ≤ m → ((h : ℕ) → live t h m ≡ false) → Kept s t m
unused_kept s t m l d =
    record {
      live_kept = λ h. d h ∙ sym (past_not_live _ _ _ h m l);
      generation_kept = λ w. absurd (omega arith);
      place_kept = λ w. absurd (omega arith);
    }

-- a number settled in tables u, in which every other number is as it is in s
module _ (u : Ids) (n g : ℕ) (place : Place) (ok : EntryOk u) (b : n < u.head.used) where
  settled_ok : EntryOk (settled u n g place)
  settled_ok =
      record {
        small = rw (length-set u.generations n g) ok.small;
        archetypes_long = rw (length-set u.generations n g, length-set u.archetypes n place.archetype) ok.archetypes_long;
        indices_long = rw (length-set u.generations n g, length-set u.indices n place.index.0) ok.indices_long;
        pending_long = rw (length-set u.generations n g) ok.pending_long;
        used_in = rw (length-set u.generations n g) ok.used_in;
        pending_in = ok.pending_in;
        free_in = ok.free_in;
        new_in = rw (length-set u.generations n g) ok.new_in;
        live_is = ok.live_is;
      }

  generation_set : generation_at (settled u n g place) n ≡ g
  generation_set = get_or-set_same u.generations n g 0 (omega arith)

  index_set : index_at (settled u n g place) n ≡ place.index.0
  index_set = get_or-set_same u.indices n place.index.0 0 (omega arith)

  archetype_set : get_or (settled u n g place).archetypes n 0 ≡ place.archetype
  archetype_set = get_or-set_same u.archetypes n place.archetype 0 (omega arith)

  kept_on : (s : Ids) (m : ℕ) → s.head.used ≤ u.head.used → (m ≡ n → ⊥) → Kept s u m → Kept s (settled u n g place) m
  kept_on s m k ne w =
      let eg : generation_at (settled u n g place) m ≡ generation_at u m = get_or-set_other u.generations n m g 0 ne in
      let ex : index_at (settled u n g place) m ≡ index_at u m = get_or-set_other u.indices n m place.index.0 0 ne in
      record {
        live_kept = λ h. live_same _ _ _ _ _ _ h m refl eg ex ∙ w.live_kept h;
        generation_kept = λ l. eg ∙ w.generation_kept l;
        place_kept = λ l. rw (get_or-set_other u.archetypes n m place.archetype 0 ne, ex) (w.place_kept l);
      }

  pub settles : (s : Ids) → flushed u.head ≡ true → place.index.0 < MAX → s.head.used ≤ u.head.used → ((m : ℕ) → (m ≡ n → ⊥) → Kept s u m)
      → Settled s n g place (settled u n g place)
  settles s f i k w =
      record {
        ok = settled_ok;
        is_flushed = f;
        below = b;
        generation_is = generation_set;
        place_is = rw (archetype_set, index_set);
        lives = is_live _ _ _ g n (record { below = b; generation = generation_set; index = λ e. omega (arith, index_set, e) });
        others = λ m ne. kept_on s m k ne (w m ne);
      }

-- the same numbers under another head and another pending list
pub same_kept : (s : Ids) (h : Head) (p : List ℕ) (m : ℕ) → h.used ≡ s.head.used → Kept s (ids_of h s.generations s.archetypes s.indices p) m
same_kept s h p m u = record { live_kept = λ q. rw u; generation_kept = λ l. refl; place_kept = λ l. refl }

-- a place written is a number settled with the generation that it has
pub placed_settled : (u : Ids) (n : ℕ) (place : Place) → placed u n place ≡ settled u n (generation_at u n) place
placed_settled u n place = rw (set-get_or u.generations n 0)

-- one more number: used becomes live, every other stays
module _ (s : Ids) (place : Place) (ok : EntryOk s) (h : s.head.used < capacity s) (i : place.index.0 < MAX) where
  more : (m : ℕ) → (m ≡ s.head.used → ⊥) → ltb m (s.head.used + 1) ≡ ltb m s.head.used
  more m ne =
      below_or_not m s.head.used (λ l. lt-ltb m (s.head.used + 1) (omega arith) ∙ sym (lt-ltb m s.head.used l))
      (λ l. le-ltb m (s.head.used + 1) (omega (arith, ne)) ∙ sym (le-ltb m s.head.used l))

  grown_kept : (m : ℕ) → (m ≡ s.head.used → ⊥) → Kept s (grown s) m
  grown_kept m ne = record { live_kept = λ k. live_same _ _ _ _ _ _ k m (more m ne) refl refl; generation_kept = λ l. refl; place_kept = λ l. refl }

  pub grown_settles : Settled s s.head.used 1 place (settled (grown s) s.head.used 1 place)
  grown_settles =
      settles (grown s) s.head.used 1 place (counts_ok s _ _ _ _ _ _ _ ok refl refl refl refl (omega arith) (omega arith) (omega arith)) (omega arith) s
      (head_flushed _ _ _) i (omega arith) grown_kept

-- one pending entry less, wherever it stood
module _ (s : Ids) (n g : ℕ) (place : Place) (p : List ℕ) (ok : EntryOk s) (c : 0 < s.head.pending) (b : n < s.head.used) (i : place.index.0 < MAX)
    (l : length p ≡ length s.pending) where
  abbrev fewer : Ids
  fewer = ids_of (flushed_head s.head.used (s.head.pending - 1) (s.head.live + 1)) s.generations s.archetypes s.indices p

  pub fewer_settles : Settled s n g place (settled fewer n g place)
  fewer_settles =
      settles fewer n g place (counts_ok s _ _ _ _ _ _ _ ok refl refl refl l (omega arith) (omega arith) (omega arith)) b s (head_flushed _ _ _) i
      (omega arith) (λ m ne. same_kept s _ p m refl)

-- the numbers from used up to n: those before n become pending, in order, and n live
module _ (s : Ids) (n g : ℕ) (place : Place) (ok : EntryOk s) (h : s.head.used ≤ n) (k : n < capacity s) (i : place.index.0 < MAX) where
  abbrev ends : Ids
  ends = settled (stretched s n) n g place

  -- a value that fills the gap of a table
  filled : (l : List ℕ) (v m : ℕ) → length l ≡ capacity s → s.head.used ≤ m → m < n → get_or (sets l s.head.used (replicate (gap s n) v)) m 0 ≡ v
  filled l v m e a b =
      let q : m ≡ s.head.used + (m - s.head.used) = omega arith in
      let j : m - s.head.used < gap s n = omega arith in
      rw q (sets_at l s.head.used (replicate (gap s n) v) (m - s.head.used) (rw (length-replicate (gap s n) v) j) (omega arith) ∙ get_or-replicate (gap s n) (m - s.head.used) v 0 j)

  pub gap_generation : (m : ℕ) → s.head.used ≤ m → m < n → generation_at ends m ≡ 1
  gap_generation m a b = get_or-set_other (stretched s n).generations n m g 0 (λ e. omega arith) ∙ filled s.generations 1 m refl a b

  pub gap_place : (m : ℕ) → s.head.used ≤ m → m < n → place_at ends m ≡ place_of 0 MAX
  gap_place m a b =
      rw (get_or-set_other (stretched s n).archetypes n m place.archetype 0 (λ e. omega arith), get_or-set_other (stretched s n).indices n m place.index.0 0 (λ e. omega arith), filled s.archetypes 0 m ok.archetypes_long a b, filled s.indices MAX m ok.indices_long a b)

  pub gap_pending : (j : ℕ) → j < gap s n → get_or ends.pending (s.head.pending + j) 0 ≡ s.head.used + j
  gap_pending j l =
      sets_at s.pending s.head.pending (up_from s.head.used (gap s n)) j (rw (length_up_from s.head.used (gap s n)) l) (omega arith)
      ∙ up_from_at s.head.used (gap s n) j l

  pub before_pending : (j : ℕ) → j < s.head.pending → get_or ends.pending j 0 ≡ get_or s.pending j 0
  before_pending j l = sets_before s.pending s.head.pending (up_from s.head.used (gap s n)) j l

  before_kept : (m : ℕ) → m < s.head.used → Kept s (stretched s n) m
  before_kept m l =
      let eg : generation_at (stretched s n) m ≡ generation_at s m = sets_before s.generations s.head.used (replicate (gap s n) 1) m l in
      let ex : index_at (stretched s n) m ≡ index_at s m = sets_before s.indices s.head.used (replicate (gap s n) MAX) m l in
      record {
        live_kept = λ q. live_same _ _ _ _ _ _ q m (lt-ltb m (n + 1) (omega arith) ∙ sym (lt-ltb m s.head.used l)) eg ex;
        generation_kept = λ w. eg;
        place_kept = λ w. rw (ex, sets_before s.archetypes s.head.used (replicate (gap s n) 0) m l);
      }

  stretched_kept : (m : ℕ) → (m ≡ n → ⊥) → Kept s (stretched s n) m
  stretched_kept m ne =
      below_or_not m s.head.used (before_kept m)
      (λ l. unused_kept s (stretched s n) m l
      (λ q. below_or_not m n (λ b. empty_not_live _ _ _ q m (filled s.indices MAX m ok.indices_long l b)) (λ b. past_not_live (n + 1) _ _ q m (omega (arith, ne)))))

  pub stretched_settles : Settled s n g place ends
  stretched_settles =
      settles (stretched s n) n g place
      (counts_ok s _ _ _ _ _ _ _ ok (simp length-sets) (simp length-sets) (simp length-sets) (simp length-sets) (omega arith) (omega arith) (omega arith))
      (omega arith) s (head_flushed _ _ _) i (omega arith) stretched_kept

-- a pending number taken out: the last entry stands in its position
module _ (s : Ids) (n g : ℕ) (place : Place) (ok : EntryOk s) (a : pending_at s n < s.head.pending) where
  pub taken_moved : get_or (settled (taken_out s n) n g place).pending (pending_at s n) 0 ≡ last_pending s
  taken_moved = get_or-set_same s.pending (pending_at s n) (last_pending s) 0 (omega arith)

  pub taken_others : (j : ℕ) → (j ≡ pending_at s n → ⊥) → get_or (settled (taken_out s n) n g place).pending j 0 ≡ get_or s.pending j 0
  taken_others j ne = get_or-set_other s.pending (pending_at s n) j (last_pending s) 0 ne

-- number n is no longer live, has the next generation and no place, and is the last pending entry
pub record Released (s : Ids) (n g : ℕ) (t : Ids) : Type 0 where
  pub ok : EntryOk t
  pub is_flushed : flushed t.head ≡ true
  pub generation_is : generation_at t n ≡ next_generation g
  pub place_is : place_at t n ≡ place_of 0 MAX
  pub not_live : (h : ℕ) → live t h n ≡ false
  pub pushed : get_or t.pending s.head.pending 0 ≡ n
  pub before : (j : ℕ) → j < s.head.pending → get_or t.pending j 0 ≡ get_or s.pending j 0
  pub others : (m : ℕ) → (m ≡ n → ⊥) → Kept s t m

module _ (s : Ids) (n g : ℕ) (ok : EntryOk s) (b : n < s.head.used) (z : s.head.live ≡ 0 → ⊥) where
  pub frees : Released s n g (freed_ids s g n)
  frees =
      let ex : index_at (freed_ids s g n) n ≡ MAX = get_or-set_same s.indices n MAX 0 (omega arith) in
      record {
        ok = counts_ok s _ _ _ _ _ _ _ ok (simp length-set) (simp length-set) (simp length-set) (simp length-set) (omega arith) (omega (arith, z)) (omega (arith, z));
        is_flushed = head_flushed _ _ _;
        generation_is = get_or-set_same s.generations n (next_generation g) 0 (omega arith);
        place_is = rw (get_or-set_same s.archetypes n 0 0 (omega arith), ex);
        not_live = λ h. empty_not_live _ _ _ h n ex;
        pushed = get_or-set_same s.pending s.head.pending n 0 (omega (arith, z));
        before = λ j l. get_or-set_other s.pending s.head.pending j n 0 (λ e. omega arith);
        others = λ m ne.
            let eg : generation_at (freed_ids s g n) m ≡ generation_at s m = get_or-set_other s.generations n m (next_generation g) 0 ne in
            let ey : index_at (freed_ids s g n) m ≡ index_at s m = get_or-set_other s.indices n m MAX 0 ne in
            record {
              live_kept = λ h. live_same _ _ _ _ _ _ h m refl eg ey;
              generation_kept = λ l. eg;
              place_kept = λ l. rw (get_or-set_other s.archetypes n m 0 0 ne, ey);
            };
      }

-- the next generation is never 0, fits 32 bits, and is another one
pub next_nonzero : (g : ℕ) → next_generation g ≡ 0 → ⊥
next_nonzero g e = by (eqb g MAX) e
  where
    by : (t : Bool) → cond t 1 (g + 1) ≡ 0 → ⊥
    by true q = omega arith
    by false q = omega arith

pub next_fits : (g : ℕ) → g ≤ MAX → next_generation g ≤ MAX
next_fits g h = by (eqb g MAX) refl
  where
    by : (t : Bool) → eqb g MAX ≡ t → cond t 1 (g + 1) ≤ MAX
    by true e = omega arith
    by false e = omega (arith, eqb-false g MAX e)

pub next_other : (g : ℕ) → next_generation g ≡ g → ⊥
next_other g e = by (eqb g MAX) refl e
  where
    by : (t : Bool) → eqb g MAX ≡ t → cond t 1 (g + 1) ≡ g → ⊥
    by true q w = omega (arith, eqb-true g MAX q)
    by false q w = omega arith
