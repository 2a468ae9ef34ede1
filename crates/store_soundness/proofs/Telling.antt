-- What handles read after each call, as specs has it.
-- Assumes nothing.
use Rattle.std.specs.Prelude.{Option, Some, None}
use Prim.{Unit, tt}
use Prim.Native.Nat.{ℕ, zero, suc, ◌+◌, ◌-◌, ◌<◌}
use native.Mathlib.Nat.{not-suc-le-zero, le_of_suc-le-suc}
use native.Mathlib.Omega.{arith}
use mathlib.Core.Path.{◌≡◌, refl, sym, ap, ◌∙◌}
use mathlib.Core.Bool.{not, ◌||◌}
use mathlib.Core.List.{List, [], ◌∷◌, map}
use lib.Dec.{leb, eqb}
use lib.ListN.{length, get_or, set, length-set, length-append, length-map}
use lib.Seq.{get_or-set_other, get_or-append-add}
use Rattle.refusal.specs.Table.{◌when◌, Answer, granted, refused, ◌otherwise◌}
use Rattle.refusal.specs.Laws.{passed_all, not_refused}
use Rattle.handle.specs.Bits.{bits_of, generation_in, number_in}
use Rattle.handle.specs.RoundTrip.{bits_back}
use Rattle.borrow_word.specs.Word.{is_unique}
use Rattle.id_tables.specs.Head.{free_of, new_of}
use Rattle.id_tables.specs.Ids.{live}
use Rattle.id_tables.specs.Lookup.{reserved_new, cleared}
use Rattle.id_tables.specs.Runs.{length_up_from, up_from_at}
use Rattle.id_tables.proofs.Meaning.{past_not_live, head_flushed}
use Rattle.ids.specs.Reserve.{reserved_number, reserved_generation}
use Rattle.ids.proofs.Laws.{reserved_new_lem}
use Rattle.id_batches.specs.Reserve.{recycled, fresh, old_handles, new_handles, handles}
use Rattle.id_batches.proofs.Handed.{new_is}
use Rattle.decl.specs.Decl.{archetypes, first_column, types_of}
use Rattle.decl.specs.Lookup.{column_of}
use Rattle.cells.specs.Cell.{cell}
use Rattle.columns.proofs.Cells.{held_is}
use Rattle.store_tables.specs.Store.{Store, with_words}
use Rattle.store_tables.specs.Rows.{archetype_of, row_of}
use Rattle.store_tables.specs.Held.{is_missing}
use Rattle.store_reads.specs.Component.{◌and_then◌}
use Rattle.store_reads.specs.Words.{word_stored, holding}
use Rattle.store_reads.specs.Lines.{place_in, word_in, part_in}
use Rattle.store_reads.proofs.Agreeing.{writing_parts}
use Rattle.store_reads.proofs.Refusing.{reading_lines, holding_lines}
use Rattle.store_spawn.proofs.Granting.{spawning_parts}
use Rattle.store_despawn.proofs.Granting.{despawning_parts}
use Rattle.store_reserve.proofs.Laws.{reserving_parts, reserving_many_parts}
use Rattle.store_flush.specs.Clear.{emptied}
use Rattle.store_flush.proofs.Laws.{flushing_parts, clearing_parts}
use Rattle.soundness.specs.Sound.{Sound}
use Rattle.store_soundness.specs.Reads.{read_bytes, column_for, ReadsOf, Among, OthersRead, NamedRead}
use Rattle.store_soundness.proofs.Bridge.{sound_entered}
use Rattle.store_soundness.proofs.Reading.{read_absent, read_reserved, read_missing, read_held}
use Rattle.store_soundness.proofs.Others.{none_new, despawn_others, spawn_others}
use Rattle.store_soundness.proofs.Touched.{spawn_read, spawn_lacks, despawn_read}
use Rattle.store_soundness.proofs.Batches.{reserve_kept, reserve_many_kept, clear_kept}
use Rattle.store_soundness.proofs.Batched.{NewlyReserved, write_others, write_read, reserve_others, flush_others}
use Rattle.store_soundness.proofs.Writes.{write_kept, words_sound}
use Rattle.store_soundness.proofs.Calling.{own}

pub reads_of : (s : Store) → Sound s → (bits type : ℕ) → (generation_in bits ≡ 0 → ⊥) → ReadsOf s bits type
reads_of s sound bits type nz =
    record {
      absent = read_absent sound bits type nz;
      reserved = read_reserved sound bits type nz;
      lacks = read_missing sound bits type nz;
      holds = λ l j e u. read_held sound bits type nz l j e u ∙ ap granted (held_is s.decl s.rows (archetype_of s (number_in bits)) (row_of s (number_in bits)) j);
    }

-- what is granted twice is the same
pub same_value : {A : Type 0} {v w : A} → granted v ≡ granted w → v ≡ w
same_value e = cc

-- Borrow and release: one word changes.
module _ {s : Store} (sound : Sound s) (at w other kind : ℕ)
    (apart : (j : ℕ) → column_for s other kind ≡ Some j → first_column s.decl (archetype_of s (number_in other)) + j ≡ at → ⊥) where
  abbrev after : Store
  after = with_words s (set s.words at w)

  same_word : (c : Option ℕ) → column_for s other kind ≡ c
      → word_in s.decl (set s.words at w) (archetype_of s (number_in other)) c ≡ word_in s.decl s.words (archetype_of s (number_in other)) c
  same_word (Some j) e = get_or-set_other s.words at (first_column s.decl (archetype_of s (number_in other)) + j) w 0 (apart j e)
  same_word None e = refl

  after_sound : Sound after
  after_sound = words_sound sound (set s.words at w) (length-set s.words at w)

  words_read : read_bytes after other kind ≡ read_bytes s other kind
  unfolding read_bytes
  words_read =
      let g = generation_in other in
      let n = number_in other in
      let c = column_for s other kind in
      ap (λ (x : Answer (ℕ × ℕ)). x and_then (λ p. granted (cell s.rows.bytes p.0 p.1)))
      (reading_lines after (sound_entered after_sound) other kind (own after_sound g n)
      ∙ ap (λ (x : ℕ). 5 when eqb g 0 ∷ 2 when not (live s.ids g n || reserved_new s.ids.head g n) ∷ 15 when (not (live s.ids g n) || is_missing c) ∷ 7 when is_unique x ∷ []
      otherwise part_in s.decl (archetype_of s n) (row_of s n) c) (same_word c refl)
      ∙ sym (reading_lines s (sound_entered sound) other kind (own sound g n)))

module _ (rule : ℕ → Answer ℕ) {s : Store} (sound : Sound s) (a type : ℕ) (t : Store) where
  abbrev col : Option ℕ
  col = column_of (types_of s.decl a) type

  by_word : (k : Answer ℕ) → granted (tt, t) ≡ word_stored s (place_in s.decl a col) k → (w : ℕ) × (t ≡ with_words s (set s.words (place_in s.decl a col) w))
  by_word (granted w) e = (w, ap (λ (y : Unit {0} × Store). y.1) (same_value e))
  by_word (refused n) e = absurd (not_refused e)

  pub hold_others : granted (tt, t) ≡ holding rule s a type → (other kind : ℕ)
      → ((j : ℕ) → column_for s other kind ≡ Some j → first_column s.decl (archetype_of s (number_in other)) + j ≡ place_in s.decl a (column_of (types_of s.decl a) type) → ⊥)
      → read_bytes t other kind ≡ read_bytes s other kind
  hold_others e other kind apart =
      let p = passed_all (6 when leb (archetypes s.decl) a ∷ 15 when is_missing col ∷ []) _ (e ∙ holding_lines rule s a type (sound_entered sound)) in
      let q = by_word (rule (word_in s.decl s.words a col)) p.1 in
      rw q.1 (words_read sound (place_in s.decl a col) q.0 other kind apart)

-- the handle of a new number that a reservation reserves is one of those that it gives
module _ {s : Store} (sound : Sound s) where
  abbrev free : ℕ
  free = free_of s.ids.head.cursor

  abbrev next : ℕ
  next = s.ids.head.used + new_of s.ids.head.cursor

  one_given : (other : ℕ) → NewlyReserved sound 1 (generation_in other) (number_in other) → other ≡ bits_of (reserved_generation s.ids) (reserved_number s.ids)
  one_given other p =
      let z : free ≡ 0 = omega (arith, p.1, p.2) in
      let q = reserved_new_lem s.ids z in
      let m : number_in other ≡ next = omega (arith, p.1, p.2) in
      let gx : generation_in other ≡ reserved_generation s.ids = p.0 ∙ sym q.1 in
      let nx : number_in other ≡ reserved_number s.ids = m ∙ sym q.0 in
      sym (bits_back other) ∙ (λ i. bits_of (gx i) (nx i))

  many_given : (n other : ℕ) → NewlyReserved sound n (generation_in other) (number_in other) → Among other (handles s.ids n)
  many_given n other p =
      let i = number_in other - next in
      let h : i < n - free = omega (arith, p.1, p.2) in
      let old = old_handles s.ids.generations (recycled s.ids n) in
      let new = new_handles (fresh s.ids n) in
      let long : length new ≡ n - free = ap length (new_is (fresh s.ids n)) ∙ length-map (fresh s.ids n) (bits_of 1) ∙ length_up_from next (n - free) in
      let here : get_or new i 0 ≡ other = ap (λ (l : List ℕ). get_or l i 0) (new_is (fresh s.ids n)) ∙ mapped (fresh s.ids n) i (rw (length_up_from next (n - free)) h)
      ∙ (let e : get_or (fresh s.ids n) i 0 ≡ number_in other = up_from_at next (n - free) i h ∙ omega (arith, p.1) in
      let g1 : 1 ≡ generation_in other = sym p.0 in
      (λ k. bits_of (g1 k) (e k)) ∙ bits_back other) in
      (length old + i, rw (length-append old new) (omega arith), get_or-append-add old new i 0 ∙ here)
    where
      mapped : (ns : List ℕ) (i : ℕ) → i < length ns → get_or (map (bits_of 1) ns) i 0 ≡ bits_of 1 (get_or ns i 0)
      mapped [] i h = absurd (not-suc-le-zero h)
      mapped (x ∷ xs) zero h = refl
      mapped (x ∷ xs) (suc i) h = mapped xs i (le_of_suc-le-suc h)

pub others_read : (s : Store) → Sound s → OthersRead s
others_read s sound =
    record {
      spawn = λ a run bits t e other type ne.
          let p = spawning_parts s a run e in
          rw (ap (λ (x : ℕ × Store). x.1) p.3) (spawn_others sound p.2 run other type (λ q. ne (q ∙ sym (ap (λ (x : ℕ × Store). x.0) p.3))));
      despawn = λ bits t e other type ne.
          let p = despawning_parts s bits e in
          rw (ap (λ (x : Unit {0} × Store). x.1) p.3) (despawn_others sound bits p.2 other type ne);
      write = λ bits type value t e other kind ne. write_others sound (writing_parts s bits type value e) (write_kept s bits type value sound e) other kind ne;
      hold = λ rule a type t e other kind apart. hold_others rule sound a type t e other kind apart;
      reserve_one = λ bits t e other type ne.
          let p = reserving_parts s e in
          rw (ap (λ (x : ℕ × Store). x.1) p.2)
          (reserve_others sound 1 (rw (ap (λ (x : ℕ × Store). x.1) p.2) at (reserve_kept s sound e)) other type (λ q. ne (one_given sound other q ∙ sym (ap (λ (x : ℕ × Store). x.0) p.2))));
      reserve_many = λ n out left t e other type ne.
          let p = reserving_many_parts s n out e in
          rw (ap (λ (x : Unit {0} × (Store × List ℕ)). x.1.0) p.2)
          (reserve_others sound n (rw (ap (λ (x : Unit {0} × (Store × List ℕ)). x.1.0) p.2) at (reserve_many_kept s n out sound e)) other type (λ q. ne (many_given sound n other q)));
      flush = λ t e other type ne.
          let p = flushing_parts s e in
          rw (ap (λ (x : Unit {0} × Store). x.1) p.2) (flush_others sound p.1 other type ne);
    }

pub named_read : (s : Store) → Sound s → NamedRead s
named_read s sound =
    record {
      spawn = λ a run bits t e type j c.
          let p = spawning_parts s a run e in
          rw (ap (λ (x : ℕ × Store). x.1) p.3, ap (λ (x : ℕ × Store). x.0) p.3) (spawn_read sound p.2 run type p.1 j c);
      spawn_lacks = λ a run bits t e type c.
          let p = spawning_parts s a run e in
          rw (ap (λ (x : ℕ × Store). x.1) p.3, ap (λ (x : ℕ × Store). x.0) p.3) (spawn_lacks sound p.2 run type c);
      despawn = λ bits t e type.
          let p = despawning_parts s bits e in
          rw (ap (λ (x : Unit {0} × Store). x.1) p.3) (despawn_read sound bits p.2 p.1 type);
      write = λ bits type value t e. write_read sound (writing_parts s bits type value e) (write_kept s bits type value sound e);
      clear = λ t e bits type nz.
          let p = clearing_parts s e in
          let q : t ≡ emptied s = ap (λ (x : Unit {0} × Store). x.1) p.2 in
          rw q
          (read_absent (rw q at (clear_kept s e)) bits type nz (past_not_live 0 _ _ (generation_in bits) (number_in bits) (omega arith))
          (none_new (cleared s.ids) (generation_in bits) (number_in bits) (head_flushed 0 0 0)));
    }
