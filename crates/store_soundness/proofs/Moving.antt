-- A live number's row moves to another archetype: it is seated there, its old row leaves, and the new row is its place.
-- Assumes nothing.
use Prim.Native.Nat.{ℕ, ◌+◌, ◌-◌, ◌<◌}
use native.Mathlib.Omega.{arith}
use mathlib.Core.Path.{◌≡◌, refl, sym, ap, ◌∙◌, subst}
use mathlib.Core.Bool.{Bool, true, false}
use mathlib.Core.Logic.{inl, inr, ⊎_elim}
use mathlib.Core.List.{List}
use Rattle.handle.specs.Bits.{place_of}
use Rattle.id_tables.specs.Ids.{Ids, placed}
use Rattle.id_tables.proofs.Placing.{placed_here, placed_other}
use Rattle.decl.specs.Decl.{Decl, archetypes, rows_of}
use Rattle.row_step.specs.Tables.{Rows, count_of, last_of}
use Rattle.row_step.proofs.Held.{same_or_not}
use Rattle.column_entry.specs.Kept.{Ready, There}
use Rattle.columns.specs.Calls.{removed_from}
use Rattle.columns.specs.Calls.{number_at as number_in}
use Rattle.columns.proofs.Held.{appended_number, appended_others, appended_count, appended_counts_kept, removed_number, removed_others, removed_count, removed_counts_kept, removed_ready}
use Rattle.store_tables.specs.Store.{Store, store_of, with_ids}
use Rattle.store_tables.specs.Rows.{archetype_of, row_of, last_number, is_last, seated, vacated}
use Rattle.store_tables.proofs.Vacating.{vacated_decl, vacated_words, vacated_rows, vacated_last, vacated_other}
use Rattle.soundness.specs.Sound.{Lives, SoundIds, Sound}
use Rattle.soundness.proofs.Meaning.{sound_ok}
use Rattle.soundness.proofs.Keeping.{place_sound}
use Rattle.store_soundness.proofs.Seated.{Joins, joined_seated, seated_as}
use Rattle.store_soundness.proofs.Seated.{Among as Taken}
use Rattle.store_soundness.proofs.Bridge.{sound_entered, seated_sound}
use Rattle.store_soundness.proofs.Leaving.{row_there, vacant_ids, vacant_lives, lives_vacant, vacant_seated}
use Rattle.store_soundness.proofs.Taking.{full_ready, taken_is, taken_ready}

module _ {s : Store} (sound : Sound s) {n : ℕ} (l : Lives s.ids n) (b : ℕ) (run : List ℕ) (declared : b < archetypes s.decl)
    (room : count_of s.rows b < rows_of s.decl b) (other : b ≡ archetype_of s n → ⊥) where
  abbrev d : Decl
  d = s.decl

  abbrev w : Rows
  w = s.rows

  abbrev a : ℕ
  a = archetype_of s n

  abbrev r : ℕ
  r = row_of s n

  ready : Ready d w
  ready = (sound_entered sound).rows

  -- the rows with the number in both
  abbrev both : Store
  both = seated s b n run

  abbrev u : Rows
  u = both.rows

  both_ready : Ready d u
  both_ready = taken_ready d w b n run ready declared room

  count_b : count_of u b ≡ count_of w b + 1
  count_b = rw (taken_is d w b n run ready declared room) (appended_count d _ b n (full_ready d w b n run ready declared room) declared room)

  count_other : (c : ℕ) → (c ≡ b → ⊥) → count_of u c ≡ count_of w c
  count_other c ne = rw (taken_is d w b n run ready declared room) (appended_counts_kept d _ b n (full_ready d w b n run ready declared room) declared room c ne)

  number_b : number_in d u b (count_of w b) ≡ n
  number_b = rw (taken_is d w b n run ready declared room) (appended_number d _ b n (full_ready d w b n run ready declared room) declared room)

  number_other : (c q : ℕ) → q < rows_of d c → (c ≡ b → q ≡ count_of w b → ⊥) → number_in d u c q ≡ number_in d w c q
  number_other c q h ne = rw (taken_is d w b n run ready declared room) (appended_others d _ b n (full_ready d w b n run ready declared room) declared room c q h ne)

  -- the old row's archetype is as it was
  abbrev t : There d w a r
  t = row_there sound l

  a_not_b : a ≡ b → ⊥
  a_not_b e = other (sym e)

  pub count_a : count_of u a ≡ count_of w a
  count_a = count_other a a_not_b

  pub both_there : There d u a r
  both_there = record { ready = both_ready; archetype_in = t.archetype_in; row_in = rw count_a t.row_in }

  last_same : last_number both a ≡ last_number s a
  last_same = rw count_a (number_other a (last_of w a) (omega (arith, t.row_in, ready.counts_in a)) (λ e. absurd (a_not_b e)))

  is_last_same : is_last both a r ≡ is_last s a r
  is_last_same = rw count_a

  -- so the ids that are left are those that the row leaves in s
  pub moved_ids : (vacated both a r).ids ≡ (vacated s a r).ids
  moved_ids = by (is_last s a r) refl
    where
      by : (x : Bool) → is_last s a r ≡ x → (vacated both a r).ids ≡ (vacated s a r).ids
      by true e = vacated_last both a r (is_last_same ∙ e) ∙ sym (vacated_last s a r e)
      by false e = vacated_other both a r (is_last_same ∙ e) ∙ rw last_same (sym (vacated_other s a r e))

  abbrev vac : Ids
  vac = (vacated s a r).ids

  abbrev end : Ids
  end = placed vac n (place_of b (count_of w b))

  abbrev gone : Rows
  gone = removed_from d w a r

  abbrev left : Rows
  left = removed_from d u a r

  row_few : count_of w b < 4096
  row_few = omega (arith, ready.tabled.kept.declared.shaped.rows_in b)

  end_sound : SoundIds end
  end_sound = place_sound (vacant_ids sound l) (vacant_lives sound l n l) (place_of b (count_of w b)) (omega (arith, row_few))

  gone_count : count_of gone b ≡ count_of w b
  gone_count = removed_counts_kept d w a r t b other

  joins : Joins d gone left vac end (λ (m : ℕ). Lives s.ids m × (m ≡ n → ⊥)) b 1 (λ _. n)
  joins =
      record {
        count_here = removed_counts_kept d u a r both_there b other ∙ count_b ∙ ap (λ (x : ℕ). x + 1) (sym gone_count);
        count_other = λ c ne. ⊎_elim
            (λ (e : c ≡ a). rw e (removed_count d u a r both_there ∙ ap (λ (x : ℕ). x - 1) count_a ∙ sym (removed_count d w a r t)))
            (λ (na : c ≡ a → ⊥). removed_counts_kept d u a r both_there c na ∙ count_other c ne ∙ sym (removed_counts_kept d w a r t c na)) (same_or_not c a);
        number_here_lem = λ x h.
            let e : count_of gone b + x ≡ count_of w b = omega (arith, gone_count) in
            rw e (removed_others d u a r both_there b (count_of w b) room (λ q. absurd (other q)) ∙ number_b);
        number_other = others;
        place_here = λ x h.
            let e : count_of gone b + x ≡ count_of w b = omega (arith, gone_count) in
            let ok = sound_ok vac (vacant_ids sound l) in
            let below = (vacant_lives sound l n l).0 in
            rw e (placed_here vac n (place_of b (count_of w b)) (omega (arith, ok.archetypes_long, ok.used_in)) (omega (arith, ok.indices_long, ok.used_in)));
        place_other = λ m x. placed_other vac n (place_of b (count_of w b)) m x.1;
      }
    where
      others : (c q : ℕ) → c < archetypes d → q < count_of gone c → number_in d left c q ≡ number_in d gone c q
      others c q hc hq =
          ⊎_elim
          (λ (e : c ≡ a).
          let h : q < last_of w a = rw (e, removed_count d w a r t) at hq in
          ⊎_elim
          (λ (k : q ≡ r). rw (e, k) (removed_number d u a r both_there ∙ last_same ∙ sym (removed_number d w a r t)))
          (λ (nk : q ≡ r → ⊥). elsewhere c q (rw e (omega (arith, ready.counts_in a))) (λ x. absurd (a_not_b (sym e ∙ x))) (λ _. nk)) (same_or_not q r))
          (λ (na : c ≡ a → ⊥).
          let h : q < count_of w c = rw (removed_counts_kept d w a r t c na) at hq in
          elsewhere c q (omega (arith, ready.counts_in c)) (λ x y. omega (arith, rw x at h)) (λ x. absurd (na x))) (same_or_not c a)
        where
          elsewhere : (c q : ℕ) → q < rows_of d c → (c ≡ b → q ≡ count_of w b → ⊥) → (c ≡ a → q ≡ r → ⊥) → number_in d left c q ≡ number_in d gone c q
          elsewhere c q h nb na = removed_others d u a r both_there c q h na ∙ number_other c q h nb ∙ sym (removed_others d w a r t c q h na)

  -- the store that is left
  pub moved_store : with_ids (vacated both a r) (placed (vacated both a r).ids n (place_of b (count_of w b))) ≡ store_of d end left s.words
  moved_store = rw (vacated_decl both a r, vacated_rows both a r, vacated_words both a r, moved_ids)

  pub moved_sound : Sound (with_ids (vacated both a r) (placed (vacated both a r).ids n (place_of b (count_of w b))))
  moved_sound =
      subst Sound (sym moved_store)
      (seated_sound d end left s.words end_sound (removed_ready d u a r both_there) (sound_entered sound).words_long
      (seated_as
      (λ m. ⊎_elim (λ (x : Lives s.ids m × (m ≡ n → ⊥)). vacant_lives sound l m x.0) (λ (x : Taken 1 (λ _. n) m). subst (Lives vac) x.2 (vacant_lives sound l n l)))
      (λ m x. ⊎_elim (λ (e : m ≡ n). inr (0, omega arith, sym e)) (λ (ne : m ≡ n → ⊥). inl (lives_vacant sound l m x, ne)) (same_or_not m n))
      (joined_seated (vacant_seated sound l vac (λ m x ne. refl)) declared joins)))
