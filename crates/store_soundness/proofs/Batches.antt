-- Reservations, flush and clear of sound tables.
-- Assumes nothing.
use Prim.{Unit}
use Prim.Native.Nat.{ℕ, ◌<◌}
use native.Mathlib.Omega.{arith}
use mathlib.Core.Path.{◌≡◌}
use mathlib.Core.Bool.{false}
use mathlib.Core.Logic.{inl, inr, ⊎_elim}
use mathlib.Core.List.{List}
use lib.ListN.{get_or}
use Rattle.refusal.specs.Table.{granted}
use Rattle.id_batches.specs.Flush.{reserved_count}
use Rattle.decl.specs.Decl.{archetypes}
use Rattle.store_tables.specs.Store.{Store}
use Rattle.store_tables.specs.Kept.{Entered}
use Rattle.store_tables.proofs.Entering.{entered}
use Rattle.store_reserve.specs.Reserve.{reserving, reserving_many}
use Rattle.store_reserve.proofs.Laws.{reserving_parts, reserving_many_parts}
use Rattle.store_flush.specs.Flush.{reserved, with_reserved, flushing}
use Rattle.store_flush.specs.Clear.{emptied, clearing}
use Rattle.store_flush.proofs.Laws.{FlushOk, flushing_parts, can_flush, flushed_seats, flushed_number, flushed_kept, flushed_count, flushed_counts, flushed_entered, flushed_place, reserved_long, clearing_parts, cleared_count, cleared_entered}
use Rattle.soundness.specs.Sound.{Lives, Sound}
use Rattle.soundness.proofs.Lists.{Among, among_mem}
use Rattle.soundness.proofs.Growing.{fresh_not_live}
use Rattle.soundness.proofs.Keeping.{reserved_lists, fallen_sound, flush_sound, flush_lives, clear_sound, clear_lives}
use Rattle.store_soundness.proofs.Seated.{Joins, joined_seated, seated_as}
use Rattle.store_soundness.proofs.Seated.{Among as Taken}
use Rattle.store_soundness.proofs.Bridge.{sound_entered, sound_seated, seated_sound}

-- a cursor that falls changes no row and no place
pub reserve_kept : (s : Store) {x : ℕ × Store} → Sound s → granted x ≡ reserving s → Sound x.1
reserve_kept s sound e =
    let p = reserving_parts s e in
    let t = sound_seated sound in
    rw p.2
    (seated_sound s.decl _ s.rows s.words (fallen_sound sound.ids 1 p.1.has_room) (sound_entered sound).rows (sound_entered sound).words_long
    (record { named = t.named; place = t.place; seat = λ n l. let q = t.seat n l in record { archetype_in = q.archetype_in; row_in = q.row_in; holds = q.holds } }))

pub reserve_many_kept : (s : Store) (n : ℕ) (out : List ℕ) {x : Unit {0} × (Store × List ℕ)} → Sound s → granted x ≡ reserving_many s n out → Sound x.1.0
reserve_many_kept s n out sound e =
    let p = reserving_many_parts s n out e in
    let t = sound_seated sound in
    rw p.2
    (seated_sound s.decl _ s.rows s.words (fallen_sound sound.ids n p.1.room_in) (sound_entered sound).rows (sound_entered sound).words_long
    (record { named = t.named; place = t.place; seat = λ m l. let q = t.seat m l in record { archetype_in = q.archetype_in; row_in = q.row_in; holds = q.holds } }))

-- Flush: the reserved numbers take the unused rows of archetype 0.
module _ {s : Store} (sound : Sound s) (k : FlushOk s) where
  enters : Entered s
  enters = sound_entered sound

  f : ℕ → ℕ
  f x = get_or (reserved s.ids) x 0

  some : 0 < archetypes s.decl
  some = enters.rows.tabled.kept.declared.shaped.some

  -- a reserved number did not live
  reserved_new_lem : (m : ℕ) → Among m (reserved s.ids) → Lives s.ids m → ⊥
  reserved_new_lem m x l = fresh_not_live sound.ids 0 (reserved_count s.ids) m ((reserved_lists sound.ids).only m (among_mem m _ x)) l

  joins : Joins s.decl s.rows (with_reserved s).rows s.ids (with_reserved s).ids (Lives s.ids) 0 (reserved_count s.ids) f
  unfolding f
  joins =
      record {
        count_here = flushed_count s enters k;
        count_other = λ b ne. flushed_counts s enters k b (omega (arith, ne));
        number_here_lem = λ x h. flushed_number s enters k x h;
        number_other = λ b q hb hq. flushed_kept s enters k b q hq;
        place_here = λ x h. flushed_place s enters k sound.ids.pending_differ x h;
        place_other = λ m l. (flushed_seats s enters k).other_place m (λ i h e. reserved_new_lem m (i, h, e) l);
      }

  pub flushed_sound : Sound (with_reserved s)
  unfolding f
  flushed_sound =
      seated_sound s.decl (with_reserved s).ids (with_reserved s).rows s.words (flush_sound sound.ids (can_flush s enters k) 0)
      (flushed_entered s enters k).rows enters.words_long
      (seated_as
      (λ m x. (flush_lives sound.ids (can_flush s enters k) 0 m).1 (⊎_elim (λ (l : Lives s.ids m). inl l) (λ (t : Taken (reserved_count s.ids) f m). inr (t.0, rw (reserved_long s enters k) t.1, t.2)) x))
      (λ m x. ⊎_elim (λ (l : Lives s.ids m). inl l) (λ (t : Among m (reserved s.ids)). inr (t.0, rw (reserved_long s enters k) at t.1, t.2)) ((flush_lives sound.ids (can_flush s enters k) 0 m).0 x))
      (joined_seated (sound_seated sound) some joins))

pub flush_kept : (s : Store) {x : Unit {0} × Store} → Sound s → granted x ≡ flushing s → Sound x.1
flush_kept s sound e = let p = flushing_parts s e in rw p.2 (flushed_sound sound p.1)

-- Clear: no row, and no number that lives
pub clear_kept : (s : Store) {x : Unit {0} × Store} → granted x ≡ clearing s → Sound x.1
clear_kept s e =
    let p = clearing_parts s e in
    let h = entered s false p.0 in
    let g = cleared_entered s h in
    rw p.2
    (seated_sound s.decl (emptied s).ids (emptied s).rows s.words (clear_sound h.ids) g.rows g.words_long
    (record {
      named = λ a r b q. absurd (omega (arith, cleared_count s a));
      place = λ a r b q. absurd (omega (arith, cleared_count s a));
      seat = λ n l. absurd (clear_lives h.ids n l);
    }))
