-- A row that moves to another archetype: a read by any other handle gives what it gave.
-- Assumes nothing.
use Rattle.std.specs.Prelude.{Some, None}
use Prim.Native.Nat.{ℕ, ◌<◌}
use native.Mathlib.Omega.{arith}
use mathlib.Core.Path.{◌≡◌, sym, ap, ◌∙◌, subst}
use mathlib.Core.Bool.{true, false}
use mathlib.Core.Logic.{⊎_elim}
use mathlib.Core.List.{List}
use lib.ListN.{length, take}
use Rattle.handle.specs.Bits.{place_of, generation_in, number_in}
use Rattle.id_tables.specs.Ids.{Ids, index_at, generation_at, place_at, placed, live}
use Rattle.id_tables.specs.Lookup.{reserved_new}
use Rattle.id_tables.proofs.Meaning.{lives}
use Rattle.id_tables.proofs.Placing.{placed_here, placed_other, set_live}
use Rattle.refusal.specs.Table.{granted, refused}
use Rattle.borrow_word.specs.Slice.{any_held}
use Rattle.decl.specs.Decl.{Decl, archetypes, rows_of, width_of, types_of, sizes_of, size_of}
use Rattle.decl.specs.Places.{row_width}
use Rattle.decl.specs.Lookup.{column_of}
use Rattle.cells.specs.Cell.{cell}
use Rattle.cells.specs.Line.{width}
use Rattle.row_step.specs.Tables.{Rows, count_of, last_of}
use Rattle.row_step.proofs.Held.{same_or_not}
use Rattle.columns.specs.Calls.{held_at, removed_from}
use Rattle.columns.proofs.Held.{removed_row, removed_kept, removed_count, removed_counts_kept}
use Rattle.store_tables.specs.Store.{Store, with_ids}
use Rattle.store_tables.specs.Rows.{archetype_of, row_of, seated, vacated}
use Rattle.store_reads.proofs.Cells.{column_in}
use Rattle.soundness.specs.Sound.{Lives, Sound}
use Rattle.soundness.proofs.Meaning.{live_lives, sound_ok}
use Rattle.store_soundness.specs.Reads.{read_bytes}
use Rattle.store_soundness.proofs.Seated.{archetype_is, row_is}
use Rattle.store_soundness.proofs.Bridge.{sound_entered}
use Rattle.store_soundness.proofs.Leaving.{row_there, vacant, vacant_ids, vacant_lives, vacant_seated}
use Rattle.store_soundness.proofs.Reading.{Same, read_same, read_held, read_missing}
use Rattle.store_soundness.proofs.Holding.{taken_held, taken_run, vacant_same}
use Rattle.store_soundness.proofs.Others.{same_bits}
use Rattle.store_soundness.proofs.Touched.{not_unique}
use Rattle.store_soundness.proofs.Moving.{both_there, count_a, moved_store, moved_sound}

module _ {s : Store} (sound : Sound s) (bits : ℕ) (alive : live s.ids (generation_in bits) (number_in bits) ≡ true) (b : ℕ) (run : List ℕ)
    (declared : b < archetypes s.decl) (room : count_of s.rows b < rows_of s.decl b) (apart : b ≡ archetype_of s (number_in bits) → ⊥) where
  abbrev n : ℕ
  n = number_in bits

  l : Lives s.ids n
  l = (live_lives s.ids sound.ids (generation_in bits) n alive).0

  abbrev d : Decl
  d = s.decl

  abbrev w : Rows
  w = s.rows

  abbrev a : ℕ
  a = archetype_of s n

  abbrev r : ℕ
  r = row_of s n

  abbrev both : Store
  both = seated s b n run

  abbrev u : Rows
  u = both.rows

  abbrev gone : Rows
  gone = removed_from d w a r

  abbrev left : Rows
  left = removed_from d u a r

  abbrev vac : Ids
  vac = (vacated s a r).ids

  abbrev end : Ids
  end = placed vac n (place_of b (count_of w b))

  -- what the rows hold then is what they hold where the row has only left
  from_u : (c q x : ℕ) → q < rows_of d c → (c ≡ b → q ≡ count_of w b → ⊥) → held_at d u c q x ≡ held_at d w c q x
  from_u c q x h ne = taken_held d w b n run (sound_entered sound).rows declared room c q x h ne

  held_left : (c q x : ℕ) → q < count_of gone c → x < width_of d c → held_at d left c q x ≡ held_at d gone c q x
  held_left c q x hq hx =
      ⊎_elim
      (λ (e : c ≡ a).
      let h : q < last_of w a = rw (e, removed_count d w a r (row_there sound l)) at hq in
      let few = (sound_entered sound).rows.counts_in a in
      ⊎_elim
      (λ (k : q ≡ r). rw (e, k)
      (removed_row d u a r (both_there sound l b run declared room apart) x (rw e at hx)
      ∙ rw (count_a sound l b run declared room apart) (from_u a (last_of w a) x (omega (arith, (row_there sound l).row_in)) (λ y. absurd (apart (sym y))))
      ∙ sym (removed_row d w a r (row_there sound l) x (rw e at hx))))
      (λ (nk : q ≡ r → ⊥). elsewhere c q (rw e (omega (arith, few))) (λ y. absurd (apart (sym y ∙ e))) (λ _. nk)) (same_or_not q r))
      (λ (na : c ≡ a → ⊥).
      let h : q < count_of w c = rw (removed_counts_kept d w a r (row_there sound l) c na) at hq in
      elsewhere c q (omega (arith, (sound_entered sound).rows.counts_in c)) (λ y z. omega (arith, rw y at h)) (λ y. absurd (na y))) (same_or_not c a)
    where
      elsewhere : (c q : ℕ) → q < rows_of d c → (c ≡ b → q ≡ count_of w b → ⊥) → (c ≡ a → q ≡ r → ⊥) → held_at d left c q x ≡ held_at d gone c q x
      elsewhere c q h nb na =
          removed_kept d u a r (both_there sound l b run declared room apart) c q x h na ∙ from_u c q x h nb ∙ sym (removed_kept d w a r (row_there sound l) c q x h na)

  abbrev moved : Store
  moved = with_ids (vacated both a r) (placed (vacated both a r).ids n (place_of b (count_of w b)))

  same_live : (g m : ℕ) → live end g m ≡ live s.ids g m
  same_live g m =
      set_live vac (generation_in bits) n (place_of b (count_of w b)) (sound_ok vac (vacant_ids sound l)) ((vacant sound l).live_kept (generation_in bits) n ∙ alive)
      (omega (arith, (sound_entered sound).rows.tabled.kept.declared.shaped.rows_in b)) g m
      ∙ (vacant sound l).live_kept g m

  same_number : (m : ℕ) → Lives s.ids m → (m ≡ n → ⊥) → Same d s.ids end w left m
  same_number m k ne =
      let p = placed_other vac n (place_of b (count_of w b)) m ne in
      let x = vacant_same sound l end m k ne p in
      let q = (vacant_seated sound l end (λ z _ nz. placed_other vac n (place_of b (count_of w b)) z nz)).seat m (k, ne) in
      record {
        archetype_same = x.archetype_same;
        held_same = λ c h. held_left (archetype_of s m) (index_at end m) c (rw x.archetype_same at q.row_in) h ∙ x.held_same c h;
      }

  pub moved_others : (other t : ℕ) → (other ≡ bits → ⊥) → read_bytes moved other t ≡ read_bytes s other t
  moved_others other t ne =
      let q = moved_store sound l b run declared room apart in
      subst (λ (z : Store). read_bytes z other t ≡ read_bytes s other t) (sym q)
      (read_same sound (subst Sound q (moved_sound sound l b run declared room apart)) other t (same_live (generation_in other) (number_in other))
      (ap (λ h. reserved_new h (generation_in other) (number_in other)) (vacant sound l).head_kept)
      (λ x.
      let m = live_lives s.ids sound.ids (generation_in other) (number_in other) x in
      same_number (number_in other) m.0 (λ e. ne (same_bits other bits (sym m.1 ∙ ap (generation_at s.ids) e ∙ (lives _ _ _ (generation_in bits) n alive).generation) e))))

  -- The handle itself stands in the row that was taken.
  there : place_at end n ≡ place_of b (count_of w b)
  there =
      let ok = sound_ok vac (vacant_ids sound l) in
      let below = (vacant_lives sound l n l).0 in
      placed_here vac n (place_of b (count_of w b)) (omega (arith, ok.archetypes_long, ok.used_in)) (omega (arith, ok.indices_long, ok.used_in))

  module _ (nz : generation_in bits ≡ 0 → ⊥) (t : ℕ) where
    pub moved_read : any_held s.words ≡ false → length run ≡ row_width s.decl b → (c : ℕ) → column_of (types_of s.decl b) t ≡ Some c
        → read_bytes moved bits t ≡ granted (cell run (width (take c (sizes_of s.decl b))) (size_of s.decl b c))
    moved_read free long c e =
        let q = moved_store sound l b run declared room apart in
        subst (λ (z : Store). read_bytes z bits t ≡ granted (cell run (width (take c (sizes_of d b))) (size_of d b c))) (sym q)
        (read_held (subst Sound q (moved_sound sound l b run declared room apart)) bits t nz (same_live (generation_in bits) n ∙ alive) c
        (rw (archetype_is end n b (count_of w b) there) e) (not_unique s.words free _)
        ∙ ap granted
        (rw (archetype_is end n b (count_of w b) there, row_is end n b (count_of w b) there)
        (removed_kept d u a r (both_there sound l b run declared room apart) b (count_of w b) c room (λ x. absurd (apart x))
        ∙ taken_run d w b n run (sound_entered sound).rows declared room long c (column_in d b t c (sound_entered sound).rows.tabled.kept e))))

    pub moved_lacks : column_of (types_of s.decl b) t ≡ None → read_bytes moved bits t ≡ refused 15
    moved_lacks e =
        let q = moved_store sound l b run declared room apart in
        subst (λ (z : Store). read_bytes z bits t ≡ refused 15) (sym q)
        (read_missing (subst Sound q (moved_sound sound l b run declared room apart)) bits t nz (same_live (generation_in bits) n ∙ alive) (rw (archetype_is end n b (count_of w b) there) e))
