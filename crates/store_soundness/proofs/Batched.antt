-- Reads after a reservation, a flush, a clear and a write.
-- Assumes nothing.
use Rattle.std.specs.Prelude.{Some}
use Prim.{Unit}
use Prim.Native.Nat.{ℕ, ◌+◌, ◌-◌, ◌<◌, ◌≤◌}
use native.Mathlib.Omega.{arith}
use mathlib.Core.Path.{◌≡◌, refl, sym, ap, ◌∙◌, subst}
use mathlib.Core.Bool.{Bool, true, false, true≢false}
use mathlib.Core.Logic.{inl, ⊎_elim}
use mathlib.Core.List.{List}
use lib.ListN.{length, get_or, length-append, get_or-append}
use Rattle.refusal.specs.Table.{granted}
use Rattle.handle.specs.Bits.{generation_in, number_in}
use Rattle.borrow_word.specs.Word.{is_unique}
use Rattle.id_tables.specs.Head.{free_of, new_of, fallen}
use Rattle.id_tables.specs.Ids.{ids_of, generation_at, place_at, live}
use Rattle.id_tables.specs.Lookup.{reserved_old, reserved_new}
use Rattle.id_tables.proofs.Falling.{new_fallen}
use Rattle.id_tables.proofs.Laws.{new_means, is_new_lem}
use Rattle.id_tables.proofs.Meaning.{lives, head_flushed}
use Rattle.id_tables.specs.Runs.{up_from_at, length_up_from}
use Rattle.ids.proofs.Listing.{below_or_not}
use Rattle.id_batches.specs.Flush.{reserved_fresh}
use Rattle.decl.specs.Decl.{first_column, types_of}
use Rattle.decl.specs.Lookup.{column_of}
use Rattle.decl.proofs.Search.{column_held}
use Rattle.cells.specs.Cell.{cell, put}
use Rattle.row_step.specs.Tables.{tables_of}
use Rattle.columns.specs.Calls.{held_at}
use Rattle.columns.proofs.Cells.{held_is}
use Rattle.store_tables.specs.Store.{Store, with_rows, with_ids}
use Rattle.store_tables.specs.Rows.{archetype_of, row_of}
use Rattle.store_tables.specs.Kept.{Entered}
use Rattle.store_reads.specs.declared.component.Cell.{Cell}
use Rattle.store_reads.proofs.Meaning.{written_here, written_elsewhere}
use Rattle.store_reads.proofs.Agreeing.{Wrote}
use Rattle.store_flush.specs.Flush.{reserved, with_reserved}
use Rattle.store_flush.proofs.Laws.{FlushOk, flushed_bytes, flushed_seats, can_flush}
use Rattle.soundness.specs.Sound.{Lives, Sound}
use Rattle.soundness.proofs.Lists.{Among}
use Rattle.soundness.proofs.Meaning.{live_lives, lives_live}
use Rattle.soundness.proofs.Keeping.{flush_lives, flush_sound}
use Rattle.store_soundness.specs.Reads.{read_bytes}
use Rattle.store_soundness.proofs.Bridge.{sound_entered, seat_of}
use Rattle.store_soundness.proofs.Reading.{read_same, read_same_for, read_held}
use Rattle.store_soundness.proofs.Holding.{same_there}
use Rattle.store_soundness.proofs.Others.{not_so, same_bits, none_new}
use Rattle.store_soundness.proofs.Batches.{flushed_sound}

-- Write: the handle reads the value, and every other component of it, and every other handle, what they read before.
module _ {s : Store} (sound : Sound s) {bits t : ℕ} {value : List ℕ} {x : Unit {0} × Store} (p : Wrote s bits t value x) where
  abbrev g : ℕ
  g = generation_in bits

  abbrev n : ℕ
  n = number_in bits

  abbrev bytes : List ℕ
  bytes = put s.rows.bytes p.cell.start value

  abbrev left : Store
  left = with_rows s (tables_of s.rows.numbers s.rows.counts bytes)

  left_sound : Sound x.1 → Sound left
  left_sound k = subst Sound (ap (λ (y : Unit {0} × Store). y.1) p.leaves) k

  -- a component of another number, or of another type
  elsewhere : (m u c : ℕ) → Lives s.ids m → column_of (types_of s.decl (archetype_of s m)) u ≡ Some c → (m ≡ n → u ≡ t → ⊥)
      → held_at s.decl left.rows (archetype_of s m) (row_of s m) c ≡ held_at s.decl s.rows (archetype_of s m) (row_of s m) c
  elsewhere m u c l e ne =
      let q = seat_of sound m l in
      let h = p.held in
      let o = seat_of sound n (live_lives s.ids sound.ids g n h.alive).0 in
      held_is s.decl left.rows (archetype_of s m) (row_of s m) c
      ∙ written_elsewhere s p.enters t g n value p.right p.cell h (archetype_of s m) c (row_of s m) (omega (arith, q.row_in, p.enters.rows.counts_in (archetype_of s m)))
      (λ ea ec er.
      ne (sym q.holds ∙ rw (ea, er) o.holds)
      (sym (column_held (types_of s.decl (archetype_of s m)) u c e).1 ∙ rw (ea, ec) (column_held (types_of s.decl (archetype_of s n)) t h.column h.at).1))
      ∙ sym (held_is s.decl s.rows (archetype_of s m) (row_of s m) c)

  pub write_others : Sound x.1 → (other u : ℕ) → (other ≡ bits → u ≡ t → ⊥) → read_bytes x.1 other u ≡ read_bytes s other u
  write_others k other u ne =
      subst (λ (z : Store). read_bytes z other u ≡ read_bytes s other u) (sym (ap (λ (y : Unit {0} × Store). y.1) p.leaves))
      (read_same_for sound (left_sound k) other u refl refl
      (λ l.
      let m = live_lives s.ids sound.ids (generation_in other) (number_in other) l in
      record {
        archetype_same = refl;
        held_same = λ c e. elsewhere (number_in other) u c m.0 e
            (λ d. ne (same_bits other bits (sym m.1 ∙ ap (generation_at s.ids) d ∙ (lives _ _ _ g n p.held.alive).generation) d));
      }))

  word_zero : get_or s.words (first_column s.decl (archetype_of s n) + p.held.column) 0 ≡ 0
  word_zero = ap (λ (c : Cell). get_or s.words c.word 0) (sym p.held.cell) ∙ p.word_free

  pub write_read : Sound x.1 → read_bytes x.1 bits t ≡ granted value
  write_read k =
      let h = p.held in
      subst (λ (z : Store). read_bytes z bits t ≡ granted value) (sym (ap (λ (y : Unit {0} × Store). y.1) p.leaves))
      (read_held (left_sound k) bits t p.nonzero h.alive h.column h.at (ap is_unique word_zero)
      ∙ ap granted (held_is s.decl left.rows (archetype_of s n) (row_of s n) h.column
      ∙ ap (λ (c : Cell). cell bytes c.start c.size) (sym h.cell)
      ∙ written_here s p.enters t g n value p.right p.cell h))

-- A reservation changes no read but those of the new numbers that it reserves.
module _ {s : Store} (sound : Sound s) (k : ℕ) where
  abbrev fell : Store
  fell = with_ids s (ids_of (fallen s.ids.head k) s.ids.generations s.ids.archetypes s.ids.indices s.ids.pending)

  -- the new numbers that it reserves, each with generation 1
  abbrev pub NewlyReserved : ℕ → ℕ → Type 0
  NewlyReserved g m = (g ≡ 1) × (s.ids.head.used + new_of s.ids.head.cursor ≤ m) × (m < s.ids.head.used + new_of s.ids.head.cursor + (k - free_of s.ids.head.cursor))

  reserved_same : (g m : ℕ) → (NewlyReserved g m → ⊥) → reserved_new fell.ids.head g m ≡ reserved_new s.ids.head g m
  reserved_same g m out = by (reserved_new s.ids.head g m) refl
    where
      by : (b : Bool) → reserved_new s.ids.head g m ≡ b → reserved_new fell.ids.head g m ≡ reserved_new s.ids.head g m
      by true e =
          let r = new_means s.ids g m e in
          is_new_lem fell.ids g m (record { generation = r.generation; past_used = r.past_used; within = omega (arith, r.within, new_fallen s.ids.head.cursor k) }) ∙ sym e
      by false e =
          not_so (reserved_new fell.ids.head g m)
          (λ x.
          let r = new_means fell.ids g m x in
          below_or_not m (s.ids.head.used + new_of s.ids.head.cursor)
          (λ h. true≢false (sym (is_new_lem s.ids g m (record { generation = r.generation; past_used = r.past_used; within = h })) ∙ e))
          (λ h. out (r.generation, h, omega (arith, r.within, new_fallen s.ids.head.cursor k))))
          ∙ sym e

  pub reserve_others : Sound fell → (other t : ℕ) → (NewlyReserved (generation_in other) (number_in other) → ⊥) → read_bytes fell other t ≡ read_bytes s other t
  reserve_others after other t out =
      read_same sound after other t refl (reserved_same (generation_in other) (number_in other) out) (λ l. record { archetype_same = refl; held_same = λ c h. refl })

-- A flush changes no read but those of the reserved numbers.
module _ {s : Store} (sound : Sound s) (k : FlushOk s) (other t : ℕ) (out : Among (number_in other) (reserved s.ids) → ⊥) where
  abbrev m : ℕ
  m = number_in other

  abbrev ok : Entered s
  ok = sound_entered sound

  same_place : place_at (with_reserved s).ids m ≡ place_at s.ids m
  same_place = (flushed_seats s ok k).other_place m (λ i h e. out (i, h, e))

  same_generation : generation_at (with_reserved s).ids m ≡ generation_at s.ids m
  same_generation = (flushed_seats s ok k).other_generation m (λ i h e. out (fresh_among i h e))
    where
      fresh_among : (i : ℕ) → i < length (reserved_fresh s.ids) → get_or (reserved_fresh s.ids) i 0 ≡ m → Among m (reserved s.ids)
      fresh_among i h e = (i, rw (length-append (reserved_fresh s.ids) (reserved_old s.ids)) (omega arith), get_or-append (reserved_fresh s.ids) (reserved_old s.ids) 0 i h ∙ e)

  -- it lives then as before
  lives_same : live (with_reserved s).ids (generation_in other) m ≡ live s.ids (generation_in other) m
  lives_same = by (live s.ids (generation_in other) m) refl
    where
      by : (b : Bool) → live s.ids (generation_in other) m ≡ b → live (with_reserved s).ids (generation_in other) m ≡ live s.ids (generation_in other) m
      by true e =
          let l = live_lives s.ids sound.ids (generation_in other) m e in
          lives_live (with_reserved s).ids (flush_sound sound.ids (can_flush s ok k) 0) (generation_in other) m ((flush_lives sound.ids (can_flush s ok k) 0 m).1 (inl l.0)) (same_generation ∙ l.1) ∙ sym e
      by false e =
          not_so (live (with_reserved s).ids (generation_in other) m)
          (λ x.
          let l = live_lives (with_reserved s).ids (flush_sound sound.ids (can_flush s ok k) 0) (generation_in other) m x in
          ⊎_elim
          (λ (y : Lives s.ids m). true≢false (sym (lives_live s.ids sound.ids (generation_in other) m y (sym same_generation ∙ l.1)) ∙ e))
          (λ (y : Among m (reserved s.ids)). out y) ((flush_lives sound.ids (can_flush s ok k) 0 m).0 l.0))
          ∙ sym e

  -- and was not a reserved new number
  new_none : reserved_new s.ids.head (generation_in other) m ≡ false
  new_none =
      not_so (reserved_new s.ids.head (generation_in other) m)
      (λ x.
      let r = new_means s.ids (generation_in other) m x in
      let u = s.ids.head.used in
      let c = new_of s.ids.head.cursor in
      let h : m - u < c = omega (arith, r.past_used, r.within) in
      let e : get_or (reserved_fresh s.ids) (m - u) 0 ≡ m = up_from_at u c (m - u) h ∙ omega (arith, r.past_used) in
      let long : m - u < length (reserved_fresh s.ids) = rw (length_up_from u c) h in
      out (m - u, rw (length-append (reserved_fresh s.ids) (reserved_old s.ids)) (omega arith), get_or-append (reserved_fresh s.ids) (reserved_old s.ids) 0 (m - u) long ∙ e))

  pub flush_others : read_bytes (with_reserved s) other t ≡ read_bytes s other t
  flush_others =
      read_same sound (flushed_sound sound k) other t lives_same
      (none_new (with_reserved s).ids (generation_in other) m (head_flushed _ _ _) ∙ sym new_none)
      (λ l. same_there same_place (λ c h. held_is s.decl (with_reserved s).rows (archetype_of s m) (row_of s m) c ∙ rw (flushed_bytes s ok k) (sym (held_is s.decl s.rows (archetype_of s m) (row_of s m) c))))
