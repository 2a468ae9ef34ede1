-- When flush and clear are granted, and what they leave then, for callers that do not open the rules.
-- Assumes nothing.
use Prim.{Unit, tt}
use Prim.Native.Nat.{ℕ, zero, suc, ◌+◌, ◌<◌, ◌≤◌}
use native.Mathlib.Omega.{arith}
use mathlib.Core.Path.{◌≡◌, refl, ap, ◌∙◌}
use mathlib.Core.Logic.{⊎_elim}
use mathlib.Core.Bool.{true, false}
use lib.ListN.{length, get_or, replicate, length-set, length-append, length-replicate, get_or-replicate, get_or-eq_default}
use lib.Seq.{length-slice, get_or-set_same, get_or-set_other}
use borrow.Author.Tests.{le-ltb, ltb-false}
use Rattle.refusal.specs.Table.{granted, passing, ◌or_else◌}
use Rattle.refusal.specs.Laws.{passed_all, past, go, both, none_holds, value_of_lem}
use Rattle.handle.specs.Bits.{place_of}
use Rattle.borrow_word.specs.Slice.{any_held}
use Rattle.id_tables.specs.Head.{free_of, new_of}
use Rattle.id_tables.specs.Ids.{index_at, generation_at, any_damaged, live, place_at}
use Rattle.id_tables.specs.Lookup.{reserved_old}
use Rattle.id_tables.specs.Runs.{length_up_from}
use Rattle.id_tables.proofs.Damage.{none_damaged}
use Rattle.id_tables.proofs.Meaning.{is_live}
use Rattle.id_batches.specs.Flush.{reserved_fresh, reserved_count}
use Rattle.id_batches.proofs.Granted as ids
use Rattle.id_batches.proofs.Numbers.{Each, PendingDiffer, Different, each_two, up_each}
use Rattle.id_batches.proofs.Seats.{Seats, flush_seats, flush_different}
use Rattle.decl.specs.Decl.{Decl, archetypes, first_row, rows_of}
use Rattle.decl.specs.Kept.{Shaped}
use Rattle.decl.proofs.Lists.{below_or_not}
use Rattle.decl.proofs.Placing.{row_in, rows_apart}
use Rattle.row_step.specs.Tables.{count_of}
use Rattle.store_tables.specs.Store.{Store, entry}
use Rattle.store_tables.specs.Rows.{number_at}
use Rattle.store_tables.specs.Kept.{Entered}
use Rattle.store_flush.specs.Flush.{reserved, flush_rules, flushed_rows, with_reserved, reserved_seated, flushing}
use Rattle.store_flush.specs.Clear.{emptied, clearing}
use Rattle.store_flush.proofs.Runs.{listed_long, listed_here, listed_other}

-- archetype 0's rows come first
pub first_row_lem : (d : Decl) → Shaped d → first_row d 0 ≡ 0
first_row_lem d k = omega (arith, row_in d k 0)

-- what passing the tests of a flush gives, beyond the first
pub record FlushOk (s : Store) : Type 0 where
  pub no_word : any_held s.words ≡ false
  pub rows_suffice : count_of s.rows 0 + reserved_count s.ids ≤ rows_of s.decl 0
  pub whole : any_damaged s.ids (reserved_old s.ids) ≡ false

module _ (s : Store) where
  pub flush_ok : granted tt ≡ passing (flush_rules s) → FlushOk s
  unfolding flush_rules
  flush_ok e = let p = none_holds _ e in record { no_word = p.0; rows_suffice = ltb-false _ _ p.1.0; whole = p.1.1.0 }

  pub ok_flush : FlushOk s → granted tt ≡ passing (flush_rules s)
  unfolding flush_rules ◌or_else◌
  ok_flush k = rw (k.no_word, le-ltb (rows_of s.decl 0) (count_of s.rows 0 + reserved_count s.ids) k.rows_suffice, k.whole)

  pub flushing_at : granted tt ≡ passing (entry s false) → FlushOk s → flushing s ≡ granted (tt, with_reserved s)
  unfolding flushing reserved_seated
  flushing_at e k = past (entry s false) _ e ∙ past (flush_rules s) _ (ok_flush k)

  pub flushing_parts : {x : Unit {0} × Store} → granted x ≡ flushing s → (granted tt ≡ passing (entry s false)) × FlushOk s × (x ≡ (tt, with_reserved s))
  unfolding flushing reserved_seated
  flushing_parts e =
      let p = passed_all (entry s false) _ e in
      (p.0, flush_ok (passed_all (flush_rules s) _ p.1).0, value_of_lem (flush_rules s) _ p.1)

-- What a flush leaves.
module _ (s : Store) (e : Entered s) (k : FlushOk s) where
  abbrev count : ℕ
  count = count_of s.rows 0

  abbrev many : ℕ
  many = reserved_count s.ids

  shaped : Shaped s.decl
  shaped = e.rows.tabled.kept.declared.shaped

  -- the id layer grants it
  pub can_flush : ids.FlushOk s.ids count
  can_flush = record { ok = e.ids; rows_in = omega (arith, k.rows_suffice, shaped.rows_in 0); whole = k.whole }

  -- each reserved number has its row as its place, and every other number its own
  pub flushed_seats : Seats s.ids (with_reserved s).ids (reserved_fresh s.ids) (reserved s.ids) 0 count
  flushed_seats = flush_seats s.ids count can_flush 0

  pub reserved_different : PendingDiffer s.ids → Different (reserved s.ids)
  reserved_different = flush_different s.ids count can_flush

  pub reserved_long : length (reserved s.ids) ≡ many
  reserved_long =
      let o = e.ids in
      rw (length-append, length_up_from, length-slice (free_of s.ids.head.cursor) s.ids.head.pending s.ids.pending (omega arith))

  rows_there : first_row s.decl 0 + rows_of s.decl 0 ≤ length s.rows.numbers
  rows_there = omega (arith, e.rows.tabled.numbers_long, rows_apart s.decl 0 (archetypes s.decl) shaped.some)

  -- the i-th of them stands in the i-th unused row of archetype 0
  pub flushed_number : (i : ℕ) → i < many → number_at (with_reserved s) 0 (count + i) ≡ get_or (reserved s.ids) i 0
  unfolding flushed_rows
  flushed_number i h =
      let p : first_row s.decl 0 + (count + i) ≡ first_row s.decl 0 + count + i = omega arith in
      rw p (listed_here s.rows.numbers (reserved s.ids) (first_row s.decl 0 + count) i (rw reserved_long h) (omega (arith, reserved_long, rows_there, k.rows_suffice)))

  -- and every other entry of the row numbers is as it was, those of used rows among them
  pub flushed_other : (p : ℕ) → ((i : ℕ) → i < many → p ≡ first_row s.decl 0 + count + i → ⊥) → get_or (with_reserved s).rows.numbers p 0 ≡ get_or s.rows.numbers p 0
  unfolding flushed_rows
  flushed_other p a = listed_other s.rows.numbers (reserved s.ids) (first_row s.decl 0 + count) p (λ i h. a i (rw reserved_long at h))

  pub flushed_kept : (a r : ℕ) → r < count_of s.rows a → number_at (with_reserved s) a r ≡ number_at s a r
  flushed_kept zero r h = flushed_other (first_row s.decl 0 + r) (λ i l p. omega arith)
  flushed_kept (suc a) r h =
      flushed_other (first_row s.decl (suc a) + r) (λ i l p. omega (arith, k.rows_suffice, rows_apart s.decl 0 (suc a) (omega arith)))

  -- archetype 0 has that many more rows, every other archetype as many as before
  pub flushed_count : count_of (with_reserved s).rows 0 ≡ count + many
  unfolding flushed_rows
  flushed_count = get_or-set_same s.rows.counts 0 (count + many) 0 (omega (arith, e.rows.tabled.counts_long, shaped.some))

  pub flushed_counts : (a : ℕ) → 0 < a → count_of (with_reserved s).rows a ≡ count_of s.rows a
  unfolding flushed_rows
  flushed_counts a h = get_or-set_other s.rows.counts 0 a (count + many) 0 (λ z. omega arith)

  pub flushed_bytes : (with_reserved s).rows.bytes ≡ s.rows.bytes
  unfolding flushed_rows
  flushed_bytes = refl

  counts_in : (a : ℕ) → count_of (with_reserved s).rows a ≤ rows_of s.decl a
  counts_in zero = rw flushed_count k.rows_suffice
  counts_in (suc a) = rw (flushed_counts (suc a) (omega arith)) (e.rows.counts_in (suc a))

  -- what passing the first tests gives still holds
  pub flushed_entered : Entered (with_reserved s)
  unfolding flushed_rows
  flushed_entered =
      record {
        ids = flushed_seats.ok;
        rows = record {
          tabled = record {
            kept = e.rows.tabled.kept;
            numbers_long = listed_long s.rows.numbers (reserved s.ids) (first_row s.decl 0 + count) ∙ e.rows.tabled.numbers_long;
            counts_long = length-set s.rows.counts 0 (count + many) ∙ e.rows.tabled.counts_long;
            bytes_long = e.rows.tabled.bytes_long;
          };
          counts_in = counts_in;
        };
        words_long = e.words_long;
      }

  -- each reserved number is below the new used count
  pub reserved_below : Each (λ n. n < (with_reserved s).ids.head.used) (reserved s.ids)
  reserved_below =
      each_two (λ n. n < (with_reserved s).ids.head.used) (reserved_fresh s.ids) (reserved_old s.ids)
      (up_each s.ids.head.used (new_of s.ids.head.cursor) (λ n. n < (with_reserved s).ids.head.used) (λ i h. omega arith))
      (λ i h. omega (arith, (none_damaged _ _ _ (reserved_old s.ids) k.whole i h).below))

  -- and is live now, where no two pending numbers are the same
  module _ (d : PendingDiffer s.ids) (i : ℕ) (h : i < many) where
    number_in_lem : i < length (reserved s.ids)
    number_in_lem = rw reserved_long h

    pub flushed_place : place_at (with_reserved s).ids (get_or (reserved s.ids) i 0) ≡ place_of 0 (count + i)
    flushed_place = flushed_seats.place i number_in_lem (reserved_different d i)

    pub flushed_live : live (with_reserved s).ids (generation_at (with_reserved s).ids (get_or (reserved s.ids) i 0)) (get_or (reserved s.ids) i 0) ≡ true
    flushed_live =
        let row : index_at (with_reserved s).ids (get_or (reserved s.ids) i 0) ≡ count + i = ap (λ p. p.index.0) flushed_place in
        is_live _ _ _ _ _ (record { below = reserved_below i number_in_lem; generation = refl; index = λ m. omega (arith, row, m, k.rows_suffice, shaped.rows_in 0) })

-- Clear.
module _ (s : Store) where
  pub clearing_at : granted tt ≡ passing (entry s false) → any_held s.words ≡ false → clearing s ≡ granted (tt, emptied s)
  unfolding clearing ◌or_else◌
  clearing_at e h = go (entry s false) _ _ e ∙ rw h

  pub clearing_parts : {x : Unit {0} × Store} → granted x ≡ clearing s → (granted tt ≡ passing (entry s false)) × (any_held s.words ≡ false) × (x ≡ (tt, emptied s))
  unfolding clearing
  clearing_parts e =
      let b = both (entry s false) _ (passed_all _ _ e).0 in
      (b.0, (none_holds _ b.1).0, value_of_lem _ _ e)

  -- no archetype has a row
  pub cleared_count : (a : ℕ) → count_of (emptied s).rows a ≡ 0
  cleared_count a =
      ⊎_elim (λ (h : a < length s.rows.counts). get_or-replicate (length s.rows.counts) a 0 0 h)
      (λ (h : length s.rows.counts ≤ a). get_or-eq_default (replicate (length s.rows.counts) 0) 0 (rw (length-replicate {A = ℕ} (length s.rows.counts) 0) h))
      (below_or_not a (length s.rows.counts))

  pub cleared_entered : Entered s → Entered (emptied s)
  cleared_entered e =
      record {
        ids = record {
          small = e.ids.small;
          archetypes_long = e.ids.archetypes_long;
          indices_long = e.ids.indices_long;
          pending_long = e.ids.pending_long;
          used_in = omega arith;
          pending_in = omega arith;
          free_in = omega arith;
          new_in = omega arith;
          live_is = refl;
        };
        rows = record {
          tabled = record {
            kept = e.rows.tabled.kept;
            numbers_long = e.rows.tabled.numbers_long;
            counts_long = length-replicate (length s.rows.counts) 0 ∙ e.rows.tabled.counts_long;
            bytes_long = e.rows.tabled.bytes_long;
          };
          counts_in = λ a. rw (cleared_count a) (omega arith);
        };
        words_long = e.words_long;
      }
