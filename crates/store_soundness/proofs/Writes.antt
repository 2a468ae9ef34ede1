-- Write, borrow and release of sound tables: rows and places are as they were.
-- Assumes nothing.
use Prim.{Unit}
use Prim.Native.Nat.{ℕ}
use mathlib.Core.Path.{◌≡◌, ◌∙◌}
use mathlib.Core.List.{List}
use lib.ListN.{length, set, length-set}
use Rattle.refusal.specs.Table.{Answer, granted}
use Rattle.handle.specs.Bits.{generation_in, number_in}
use Rattle.cells.specs.Cell.{put}
use Rattle.cells.proofs.Laws.{length_put}
use Rattle.row_step.specs.Tables.{tables_of}
use Rattle.store_tables.specs.Store.{Store, with_rows, with_words}
use Rattle.store_reads.specs.Write.{writing}
use Rattle.store_reads.specs.Words.{holding}
use Rattle.store_reads.proofs.Writing.{value_fits}
use Rattle.store_reads.proofs.Agreeing.{writing_parts, holding_parts}
use Rattle.soundness.specs.Sound.{Sound}
use Rattle.store_soundness.proofs.Bridge.{sound_entered, sound_seated, seated_sound}

-- other bytes of the same length
pub bytes_sound : {s : Store} → Sound s → (b : List ℕ) → length b ≡ length s.rows.bytes → Sound (with_rows s (tables_of s.rows.numbers s.rows.counts b))
bytes_sound {s} sound b e =
    let h = sound_entered sound in
    let t = sound_seated sound in
    seated_sound s.decl s.ids _ s.words sound.ids
    (record {
      tabled = record {
        kept = h.rows.tabled.kept;
        numbers_long = h.rows.tabled.numbers_long;
        counts_long = h.rows.tabled.counts_long;
        bytes_long = e ∙ h.rows.tabled.bytes_long;
      };
      counts_in = h.rows.counts_in;
    })
    h.words_long
    (record { named = t.named; place = t.place; seat = λ n l. let q = t.seat n l in record { archetype_in = q.archetype_in; row_in = q.row_in; holds = q.holds } })

pub write_kept : (s : Store) (bits t : ℕ) (value : List ℕ) {x : Unit {0} × Store} → Sound s → granted x ≡ writing s bits t value → Sound x.1
write_kept s bits t value sound e =
    let p = writing_parts s bits t value e in
    rw p.leaves
    (bytes_sound sound (put s.rows.bytes p.cell.start value)
    (length_put s.rows.bytes p.cell.start value (value_fits s p.enters t (generation_in bits) (number_in bits) value p.right p.cell p.held)))

-- any words, as many as before
pub words_sound : {s : Store} → Sound s → (b : List ℕ) → length b ≡ length s.words → Sound (with_words s b)
words_sound {s} sound b e =
    let h = sound_entered sound in
    seated_sound s.decl s.ids s.rows b sound.ids h.rows (e ∙ h.words_long) (sound_seated sound)

pub hold_kept : (rule : ℕ → Answer ℕ) (s : Store) (a t : ℕ) {x : Unit {0} × Store} → Sound s → granted x ≡ holding rule s a t → Sound x.1
hold_kept rule s a t sound e =
    let p = holding_parts rule s a t e in
    rw p.leaves (words_sound sound (set s.words p.at p.word) (length-set s.words p.at p.word))
