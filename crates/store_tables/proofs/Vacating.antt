-- What a row that leaves does to every number: the one that falls into the hole is placed there, no other is touched.
-- Assumes nothing.
use Prim.Native.Nat.{ℕ, ◌<◌, ◌≤◌}
use native.Mathlib.Omega.{arith}
use mathlib.Core.Path.{◌≡◌, refl, sym, ap, ◌∙◌}
use mathlib.Core.Bool.{Bool, true, false}
use borrow.Author.Tests.{leb-false, eqb-true, eqb-false, not-false}
use Rattle.handle.specs.Bits.{place_of}
use Rattle.refusal.specs.Truth.{neither}
use Rattle.id_tables.specs.Ids.{generation_at, place_at, placed, live, EntryOk}
use Rattle.id_tables.proofs.Entering.{entry_ok}
use Rattle.id_tables.proofs.Meaning.{ok_passes, is_live}
use Rattle.id_tables.proofs.Placing.{placed_here, placed_other, placed_entry, set_live}
use Rattle.decl.specs.Decl.{sizes_of}
use Rattle.row_step.specs.Tables.{count_of, last_of, removed}
use Rattle.column_entry.specs.Entry.{block_in}
use Rattle.store_tables.specs.Store.{Store}
use Rattle.store_tables.specs.Rows.{archetype_of, row_of, last_number, is_last, moved_damaged, vacated}
use Rattle.store_tables.specs.Kept.{Entered}

-- the number of the last row, where it has its own place
pub record Moving (s : Store) (a : ℕ) : Type 0 where
  pub below : last_number s a < s.ids.head.used
  pub archetype_is : archetype_of s (last_number s a) ≡ a
  pub row_is : row_of s (last_number s a) ≡ last_of s.rows a

-- what is left of each part of the store
module _ (s : Store) (a r : ℕ) where
  pub vacated_decl : (vacated s a r).decl ≡ s.decl
  unfolding vacated
  vacated_decl = refl

  pub vacated_words : (vacated s a r).words ≡ s.words
  unfolding vacated
  vacated_words = refl

  pub vacated_rows : (vacated s a r).rows ≡ removed (block_in s.decl a) (sizes_of s.decl a) s.rows a r
  unfolding vacated
  vacated_rows = refl

  -- of the last row nothing is corrected; of another, the last row's number has it as its place
  pub vacated_last : is_last s a r ≡ true → (vacated s a r).ids ≡ s.ids
  unfolding vacated
  vacated_last e = rw e

  pub vacated_other : is_last s a r ≡ false → (vacated s a r).ids ≡ placed s.ids (last_number s a) (place_of a r)
  unfolding vacated
  vacated_other e = rw e

  pub moving : moved_damaged s a r ≡ false → is_last s a r ≡ false → Moving s a
  unfolding moved_damaged
  moving d e =
      let p = neither _ _ (rw e at d) in
      let q = neither _ _ p.1 in
      record { below = leb-false _ _ p.0; archetype_is = eqb-true _ _ (not-false _ q.0); row_is = eqb-true _ _ (not-false _ q.1) }

-- the number whose row leaves is not the one that is moved
pub owner_stays : (s : Store) (n : ℕ) → is_last s (archetype_of s n) (row_of s n) ≡ false → Moving s (archetype_of s n) → n ≡ last_number s (archetype_of s n) → ⊥
owner_stays s n e m q = eqb-false (row_of s n) (last_of s.rows (archetype_of s n)) e (ap (row_of s) q ∙ m.row_is)

-- what row r of archetype a, in leaving, does to the ids
pub record Vacates (s : Store) (a r : ℕ) : Type 0 where
  pub ok : EntryOk (vacated s a r).ids
  pub head_kept : (vacated s a r).ids.head ≡ s.ids.head
  pub generations_kept : (vacated s a r).ids.generations ≡ s.ids.generations
  pub pending_kept : (vacated s a r).ids.pending ≡ s.ids.pending
  pub live_kept : (h m : ℕ) → live (vacated s a r).ids h m ≡ live s.ids h m
  pub moved_place : is_last s a r ≡ false → place_at (vacated s a r).ids (last_number s a) ≡ place_of a r
  pub other_place : (m : ℕ) → (is_last s a r ≡ false → m ≡ last_number s a → ⊥) → place_at (vacated s a r).ids m ≡ place_at s.ids m

module _ (s : Store) (a r : ℕ) (e : Entered s) (here : r < count_of s.rows a) (d : moved_damaged s a r ≡ false) where
  -- rows are few
  row_small : count_of s.rows a ≤ 4096
  row_small = omega (arith, e.rows.counts_in a, e.rows.tabled.kept.declared.shaped.rows_in a)

  at_last : is_last s a r ≡ true → Vacates s a r
  at_last t =
      let q = vacated_last s a r t in
      record {
        ok = rw q e.ids;
        head_kept = rw q;
        generations_kept = rw q;
        pending_kept = rw q;
        live_kept = λ h m. rw q;
        moved_place = λ f. absurd (eqb-false r (last_of s.rows a) f (eqb-true r (last_of s.rows a) t));
        other_place = λ m ne. rw q;
      }

  at_other : is_last s a r ≡ false → Vacates s a r
  at_other f =
      let q = vacated_other s a r f in
      let m = moving s a r d f in
      let lives : live s.ids (generation_at s.ids (last_number s a)) (last_number s a) ≡ true =
      is_live _ _ _ _ _ (record { below = m.below; generation = refl; index = λ x. omega (arith, m.row_is, x, row_small) }) in
      record {
        ok = rw q (entry_ok (placed s.ids (last_number s a) (place_of a r)) false
            (rw (placed_entry s.ids (last_number s a) (place_of a r) false) (sym (ok_passes s.ids e.ids))));
        head_kept = rw q;
        generations_kept = rw q;
        pending_kept = rw q;
        live_kept = λ h k. rw q (set_live s.ids (generation_at s.ids (last_number s a)) (last_number s a) (place_of a r) e.ids lives (omega (arith, row_small)) h k);
        moved_place = λ f. rw q (placed_here s.ids (last_number s a) (place_of a r) (omega (arith, m.below, e.ids.used_in, e.ids.archetypes_long)) (omega (arith, m.below, e.ids.used_in, e.ids.indices_long)));
        other_place = λ k ne. rw q (placed_other s.ids (last_number s a) (place_of a r) k (ne f));
      }

  pub vacates : Vacates s a r
  vacates = by (is_last s a r) refl
    where
      by : (t : Bool) → is_last s a r ≡ t → Vacates s a r
      by true t = at_last t
      by false t = at_other t
