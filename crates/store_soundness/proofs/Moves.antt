-- Insert and remove of a component in sound tables.
-- Assumes nothing.
use Rattle.std.specs.Prelude.{Some}
use Prim.{Unit, tt}
use Prim.Native.Nat.{ℕ, ◌<◌}
use mathlib.Core.Path.{◌≡◌, sym, ap, ◌∙◌, subst}
use mathlib.Core.Bool.{false}
use mathlib.Core.Logic.{⊎_elim}
use mathlib.Core.List.{List}
use mathlib.Core.Option.{some}
use lib.ListN.{length}
use Rattle.refusal.specs.Table.{granted}
use Rattle.handle.specs.Bits.{generation_in, number_in}
use Rattle.decl.specs.Decl.{archetypes, types_of}
use Rattle.decl.specs.Lookup.{column_of}
use Rattle.decl.specs.Kept.{Declared}
use Rattle.column_entry.specs.Entry.{wrong_size}
use Rattle.cells.specs.Cell.{put}
use Rattle.cells.proofs.Laws.{length_put}
use Rattle.store_tables.specs.Store.{Store}
use Rattle.store_tables.specs.Rows.{archetype_of, row_of}
use Rattle.store_tables.proofs.Entering.{entered_right}
use Rattle.store_tables.proofs.Entities.{EntityOk}
use Rattle.store_reads.specs.Component.{cell_in}
use Rattle.store_reads.proofs.Cells.{column_in}
use Rattle.store_reads.proofs.Meaning.{held}
use Rattle.store_reads.proofs.Writing.{value_fits}
use Rattle.store_reads.proofs.Agreeing.{Wrote}
use Rattle.store_moves.specs.Target.{types_before, with_type, without_type, target_of}
use Rattle.store_moves.specs.Moves.{run_with, run_without, moved_to}
use Rattle.store_moves.proofs.Seeking.{target_means}
use Rattle.store_moves.proofs.Targets.{before_in, with_differs, without_differs}
use Rattle.store_moves.proofs.Passing.{MoveOk}
use Rattle.store_moves.proofs.Standing.{moved_to_lem}
use Rattle.store_insert.specs.Insert.{overwritten, inserting}
use Rattle.store_insert.proofs.Laws.{OverOk, IntoOk, insert_parts, inserting_parts}
use Rattle.store_insert.proofs.Refusing.{over_is}
use Rattle.store_remove.specs.Remove.{removing}
use Rattle.store_remove.proofs.Laws.{RemoveOk, remove_parts, removing_parts}
use Rattle.soundness.specs.Sound.{Lives, Sound}
use Rattle.soundness.proofs.Meaning.{live_lives}
use Rattle.store_soundness.specs.Reads.{read_bytes}
use Rattle.store_soundness.proofs.Bridge.{sound_entered}
use Rattle.store_soundness.proofs.Leaving.{own_owned}
use Rattle.store_soundness.proofs.Moving.{moved_sound}
use Rattle.store_soundness.proofs.MovedReads.{moved_others}
use Rattle.store_soundness.proofs.Touched.{all_free}
use Rattle.store_soundness.proofs.Writes.{bytes_sound}
use Rattle.store_soundness.proofs.Batched.{write_others}

-- a target other than the row's own archetype
module _ {s : Store} (sound : Sound s) (bits : ℕ) (k : EntityOk s (generation_in bits) (number_in bits)) where
  abbrev n : ℕ
  n = number_in bits

  lived : Lives s.ids n
  lived = (live_lives s.ids sound.ids (generation_in bits) n k.lives).0

  kept : Declared s.decl
  kept = (sound_entered sound).rows.tabled.kept.declared

  pub grown_differs : (t b : ℕ) → target_of s.decl (with_type t (types_of s.decl (archetype_of s (number_in bits)))) ≡ some b → b ≡ archetype_of s (number_in bits) → ⊥
  grown_differs t b e =
      let q = target_means s.decl _ b e in
      with_differs s.decl kept (archetype_of s n) b (own_owned sound lived).archetype_in q.0 t (types_before t (types_of s.decl (archetype_of s n))) (before_in t (types_of s.decl (archetype_of s n))) q.1

  pub shrunk_differs : (t j b : ℕ) → column_of (types_of s.decl (archetype_of s (number_in bits))) t ≡ Some j
      → target_of s.decl (without_type j (types_of s.decl (archetype_of s (number_in bits)))) ≡ some b → b ≡ archetype_of s (number_in bits) → ⊥
  shrunk_differs t j b c e =
      let q = target_means s.decl _ b e in
      without_differs s.decl kept (archetype_of s n) b (own_owned sound lived).archetype_in q.0 j (column_in s.decl (archetype_of s n) t j (sound_entered sound).rows.tabled.kept c) q.1

  -- the row has moved there
  module _ (b : ℕ) (run : List ℕ) (declared : b < archetypes s.decl) (m : MoveOk s (number_in bits) b) (apart : b ≡ archetype_of s (number_in bits) → ⊥) where
    pub move_sound : Sound (moved_to s (number_in bits) b run)
    move_sound = subst Sound (sym (moved_to_lem s n b run)) (moved_sound sound lived b run declared m.row_unused apart)

    pub move_others : (other t : ℕ) → (other ≡ bits → ⊥) → read_bytes (moved_to s (number_in bits) b run) other t ≡ read_bytes s other t
    move_others other t ne =
        subst (λ (z : Store). read_bytes z other t ≡ read_bytes s other t) (sym (moved_to_lem s n b run)) (moved_others sound bits k.lives b run declared m.row_unused apart other t ne)

-- Insert of a type that is held is a write.
pub over_wrote : {s : Store} → Sound s → (bits t : ℕ) (value : List ℕ) → (generation_in bits ≡ 0 → ⊥) → wrong_size s.decl.types s.decl.sizes t (length value) ≡ false
    → (j : ℕ) → OverOk s t (generation_in bits) (number_in bits) j → {x : Unit {0} × Store} → x ≡ (tt, overwritten s (number_in bits) j value) → Wrote s bits t value x
over_wrote {s} sound bits t value nz right j k e =
    record {
      enters = sound_entered sound;
      nonzero = nz;
      right = right;
      cell = cell_in s.decl (archetype_of s (number_in bits)) (row_of s (number_in bits)) j;
      held = held s t (generation_in bits) (number_in bits) j k.entity.lives k.entity.own k.held;
      word_free = all_free s.words k.no_word _;
      leaves = e ∙ ap (λ (z : Store). (tt, z)) (over_is s (number_in bits) j value);
    }

pub wrote_sound : {s : Store} {bits t : ℕ} {value : List ℕ} {x : Unit {0} × Store} → Sound s → Wrote s bits t value x → Sound x.1
wrote_sound {s} {bits} {t} {value} sound p =
    rw p.leaves
    (bytes_sound sound (put s.rows.bytes p.cell.start value)
    (length_put s.rows.bytes p.cell.start value (value_fits s p.enters t (generation_in bits) (number_in bits) value p.right p.cell p.held)))

-- Insert, either way: a write, or a row that has moved
module _ (s : Store) (bits t : ℕ) (value : List ℕ) (sound : Sound s) {x : Unit {0} × Store} (e : granted x ≡ inserting s bits t value) where
  pub insert_nonzero : generation_in bits ≡ 0 → ⊥
  insert_nonzero = (inserting_parts s bits t value e).1

  pub insert_right : wrong_size s.decl.types s.decl.sizes t (length value) ≡ false
  insert_right = entered_right s _ (inserting_parts s bits t value e).0

  pub insert_came : {P : Type 0} → (Wrote s bits t value x → P)
      → ((b : ℕ) → IntoOk s t (generation_in bits) (number_in bits) b → x ≡ (tt, moved_to s (number_in bits) b (run_with s.decl s.rows (archetype_of s (number_in bits)) (row_of s (number_in bits)) t value)) → P) → P
  insert_came wrote moved =
      ⊎_elim
      (λ p. wrote (over_wrote sound bits t value insert_nonzero insert_right p.0 p.1 p.2))
      (λ p. moved p.0 p.1 p.2)
      (insert_parts s t value (generation_in bits) (number_in bits) (inserting_parts s bits t value e).2)

  pub insert_kept : Sound x.1
  insert_kept =
      insert_came (wrote_sound sound)
      (λ b k v. rw v (move_sound sound bits k.entity b _ (target_means s.decl _ b k.target).0 k.move (grown_differs sound bits k.entity t b k.target)))

  pub insert_others : (other u : ℕ) → (other ≡ bits → ⊥) → read_bytes x.1 other u ≡ read_bytes s other u
  insert_others other u ne =
      insert_came (λ p. write_others sound p (wrote_sound sound p) other u (λ q. absurd (ne q)))
      (λ b k v. rw v (move_others sound bits k.entity b _ (target_means s.decl _ b k.target).0 k.move (grown_differs sound bits k.entity t b k.target) other u ne))

-- Remove
module _ (s : Store) (bits t : ℕ) (sound : Sound s) {x : Unit {0} × Store} (e : granted x ≡ removing s bits t) where
  pub remove_nonzero : generation_in bits ≡ 0 → ⊥
  remove_nonzero = (removing_parts s bits t e).1

  pub remove_went : {P : Type 0}
      → ((j b : ℕ) → RemoveOk s t (generation_in bits) (number_in bits) j b → x ≡ (tt, moved_to s (number_in bits) b (run_without s.decl s.rows (archetype_of s (number_in bits)) (row_of s (number_in bits)) j)) → P) → P
  remove_went f = let (j, b, k, v) = remove_parts s t (generation_in bits) (number_in bits) (removing_parts s bits t e).2 in f j b k v

  pub remove_kept : Sound x.1
  remove_kept =
      remove_went (λ j b k v. rw v (move_sound sound bits k.entity b _ (target_means s.decl _ b k.target).0 k.move (shrunk_differs sound bits k.entity t j b k.held k.target)))

  pub remove_others : (other u : ℕ) → (other ≡ bits → ⊥) → read_bytes x.1 other u ≡ read_bytes s other u
  remove_others other u ne =
      remove_went (λ j b k v. rw v (move_others sound bits k.entity b _ (target_means s.decl _ b k.target).0 k.move (shrunk_differs sound bits k.entity t j b k.held k.target) other u ne))
