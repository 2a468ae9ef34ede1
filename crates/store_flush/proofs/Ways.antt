-- The ways through the rules of flush and clear, over plain values.
-- Assumes nothing.
use Prim.{tt}
use Prim.Native.Nat.{ℕ, ◌+◌, ◌-◌, ◌<◌, ◌≤◌}
use native.Mathlib.Omega.{arith}
use native.Mathlib.Nat.{zero-add}
use mathlib.Core.Path.{◌≡◌, sym, ◌∙◌}
use mathlib.Core.Bool.{true, false}
use mathlib.Core.List.{List, [], ◌∷◌, ◌++◌}
use lib.ListN.{length, get_or, set, replicate}
use lib.Seq.{slice}
use borrow.Author.Tests.{lt-ltb, le-ltb}
use Rattle.refusal.specs.Table.{◌when◌, granted, refused, passing, ◌or_else◌, ◌otherwise◌, Did}
use Rattle.refusal.specs.Laws.{grant, refuse, stop, go, passed, stopped, did_granted, did_refused}
use Rattle.handle.specs.Bits.{MAX}
use Rattle.borrow_word.specs.Slice.{any_held}
use Rattle.id_tables.specs.declared.head.Head.{Head}
use Rattle.id_tables.specs.Head.{free_of, new_of, flushed_head}
use Rattle.id_tables.specs.Ids.{Ids, ids_of, any_damaged}
use Rattle.id_tables.specs.Lookup.{reserved_old}
use Rattle.id_tables.specs.Runs.{up_from, length_up_from}
use Rattle.id_batches.specs.Flush.{reserved_count, flushed_ids}
use Rattle.id_batches.specs.Flush as ids
use Rattle.id_tables.proofs.Parts.{part, part_is}
use Rattle.id_batches.proofs.Fitting.{flushing_fits}
use Rattle.decl.specs.Decl.{archetypes, rows_of}
use Rattle.decl.specs.Kept.{Shaped}
use Rattle.decl.proofs.Placing.{rows_apart}
use Rattle.row_step.specs.Tables.{tables_of, count_of}
use Rattle.store_tables.specs.Store.{Store, store_of, entry}
use Rattle.store_tables.specs.Kept.{Entered}
use Rattle.store_flush.specs.Flush.{listed, flush_rules, flushed_rows, with_reserved, reserved_seated}
use Rattle.store_flush.specs.Clear.{clearing}
use Rattle.store_flush.proofs.Runs.{listed_two}
use Rattle.store_flush.proofs.Laws.{first_row_lem}

-- both runs of the reserved numbers
pub lists_reserved : (h : Head) (pending l m n : List ℕ) (place fresh free : ℕ) → fresh ≡ new_of h.cursor → free ≡ free_of h.cursor
    → m ≡ listed l place (up_from h.used fresh) → n ≡ listed m (place + fresh) (part free h.pending pending)
    → n ≡ listed l place (up_from h.used (new_of h.cursor) ++ slice (free_of h.cursor) h.pending pending)
lists_reserved h pending l m n place fresh free e f p q =
    rw (q, p, part_is free h.pending pending, e, f, listed_two l (up_from h.used (new_of h.cursor)) (slice (free_of h.cursor) h.pending pending) place, length_up_from h.used (new_of h.cursor))

module _ (s : Store) where
  pub seat_held : any_held s.words ≡ true → reserved_seated s ≡ refused 8
  unfolding reserved_seated flush_rules ◌or_else◌
  seat_held h = rw h

  -- the code's counts are those of the tables and of the cursor
  module _ (h : any_held s.words ≡ false) (count fresh free rows : ℕ) (c : count ≡ get_or s.rows.counts 0 0) (n : fresh ≡ new_of s.ids.head.cursor) (f : free ≡ free_of s.ids.head.cursor)
      (r : rows ≡ get_or s.decl.rows 0 0) where
    pub seat_full : rows < count + (fresh + (s.ids.head.pending - free)) → reserved_seated s ≡ refused 4
    unfolding reserved_seated flush_rules ◌or_else◌
    seat_full l = rw (h, lt-ltb (rows_of s.decl 0) (count_of s.rows 0 + reserved_count s.ids) (omega arith))

    module _ (e : Entered s) (l : count + (fresh + (s.ids.head.pending - free)) ≤ rows) where
      shaped : Shaped s.decl
      shaped = e.rows.tabled.kept.declared.shaped

      suffices : count_of s.rows 0 + reserved_count s.ids ≤ rows_of s.decl 0
      suffices = omega arith

      -- the reserved numbers are small, and there are rows for them
      pub list_needs : ((s.ids.head.used + new_of s.ids.head.cursor ≤ MAX) × (free_of s.ids.head.cursor ≤ s.ids.head.pending) × (s.ids.head.pending ≤ length s.ids.pending))
          × (count + reserved_count s.ids ≤ length s.rows.numbers)
      list_needs =
          let k = e.ids in
          ((omega arith, omega arith, omega arith), omega (arith, suffices, e.rows.tabled.numbers_long, rows_apart s.decl 0 (archetypes s.decl) shaped.some))

      -- damage is all that is left to refuse for
      past_rows : reserved_seated s ≡ (1 when any_damaged s.ids (reserved_old s.ids) ∷ [] otherwise (tt, with_reserved s))
      unfolding reserved_seated flush_rules ◌or_else◌
      past_rows = rw (h, le-ltb (rows_of s.decl 0) (count_of s.rows 0 + reserved_count s.ids) suffices)

      id_flush : ids.flushing s.ids 0 count ≡ (1 when any_damaged s.ids (reserved_old s.ids) ∷ [] otherwise (tt, flushed_ids s.ids 0 count))
      id_flush = flushing_fits s.ids 0 count e.ids (omega (arith, suffices, shaped.rows_in 0))

      -- what the id layer refused, and what it did
      pub seat_refused : {m : ℕ} (left : Ids) → Did (ids.flushing s.ids 0 count) s.ids (refused m) left
          → Did (reserved_seated s) s (refused m) (store_of s.decl left s.rows s.words)
      unfolding ◌or_else◌
      seat_refused {m = m} left d =
          let p = did_refused (ids.flushing s.ids 0 count) d in
          let t = stopped m 1 (any_damaged s.ids (reserved_old s.ids)) _ (sym p.0 ∙ id_flush) in
          rw p.1 (refuse (past_rows ∙ rw (t.0, t.1)))

      pub seat_done : (left : Ids) → Did (ids.flushing s.ids 0 count) s.ids (granted tt) left → (numbers counts : List ℕ)
          → numbers ≡ listed s.rows.numbers count (up_from s.ids.head.used (new_of s.ids.head.cursor) ++ slice (free_of s.ids.head.cursor) s.ids.head.pending s.ids.pending)
          → counts ≡ set s.rows.counts 0 (count + (fresh + (s.ids.head.pending - free)))
          → Did (reserved_seated s) s (granted tt) (store_of s.decl left (tables_of numbers counts s.rows.bytes) s.words)
      unfolding ◌or_else◌ flushed_rows
      seat_done left d numbers counts u v =
          let p = did_granted (ids.flushing s.ids 0 count) d in
          let t = passed 1 (any_damaged s.ids (reserved_old s.ids)) [] _ (sym p ∙ id_flush) in
          let i : left ≡ flushed_ids s.ids 0 count = cc in
          rw (i, u, v, c, n, f) (grant (past_rows ∙ rw (t.0, first_row_lem s.decl shaped, zero-add (count_of s.rows 0))))

-- clear
module _ (s : Store) where
  pub clear_first : {m : ℕ} → refused m ≡ passing (entry s false) → clearing s ≡ refused m
  unfolding clearing
  clear_first e = stop (entry s false) _ _ e

  module _ (e : granted tt ≡ passing (entry s false)) where
    pub clear_held : any_held s.words ≡ true → clearing s ≡ refused 8
    unfolding clearing ◌or_else◌
    clear_held h = go (entry s false) _ _ e ∙ rw h

    pub clear_done : any_held s.words ≡ false → (head : Head) (counts : List ℕ) → head ≡ flushed_head 0 0 0 → counts ≡ replicate (length s.rows.counts) 0
        → Did (clearing s) s (granted tt) (store_of s.decl (ids_of head s.ids.generations s.ids.archetypes s.ids.indices s.ids.pending) (tables_of s.rows.numbers counts s.rows.bytes) s.words)
    unfolding clearing ◌or_else◌
    clear_done h head counts p q = rw (p, q) (grant (go (entry s false) _ _ e ∙ rw h))
