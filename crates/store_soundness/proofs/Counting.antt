-- The rows held are as many as the numbers that live.
-- Assumes nothing.
use Prim.Native.Nat.{ℕ, zero, suc, ◌+◌, ◌-◌, ◌<◌, ◌≤◌}
use native.Mathlib.Omega.{arith}
use mathlib.Core.Path.{◌≡◌, sym, ◌∙◌}
use mathlib.Core.Logic.{inl, inr, ⊎_elim}
use mathlib.Core.List.{List, [], ◌++◌, map}
use lib.ListN.{length, length-append, length-map}
use lib.Seq.{slice, length-slice}
use Rattle.id_tables.specs.Runs.{up_from, length_up_from}
use Rattle.decl.specs.Lists.{sum, first_of}
use Rattle.decl.specs.Decl.{archetypes}
use Rattle.decl.proofs.Lists.{first_none, first_next, first_all}
use Rattle.row_step.specs.Tables.{count_of}
use Rattle.row_step.proofs.Held.{same_or_not}
use Rattle.store_tables.specs.Store.{Store}
use Rattle.store_tables.specs.Rows.{number_at}
use Rattle.soundness.specs.Sound.{Pending, Lives, InUse, Sound}
use Rattle.soundness.proofs.Lists.{Lists, lists_none, lists_as, lists_join, lists_map, same_length, Between, lists_up}
use Rattle.soundness.proofs.Meaning.{Old, pending?, old_lists, sound_ok}
use Rattle.store_soundness.proofs.Bridge.{sound_entered}

module _ {s : Store} (sound : Sound s) where
  -- the number stands in a row in use of an archetype below b
  abbrev Within : ℕ → ℕ → Type 0
  Within b m = (a : ℕ) × (r : ℕ) × (a < b) × InUse s a r × (number_at s a r ≡ m)

  -- the numbers of the rows in use of those archetypes
  held : ℕ → List ℕ
  held zero = []
  held (suc b) = held b ++ map (number_at s b) (up_from 0 (count_of s.rows b - 0))

  held_long : (b : ℕ) → length (held b) ≡ first_of s.rows.counts b
  unfolding held
  held_long zero = sym (first_none s.rows.counts)
  held_long (suc b) =
      length-append (held b) (map (number_at s b) (up_from 0 (count_of s.rows b - 0)))
      ∙ omega (arith, held_long b, first_next s.rows.counts b, length-map (up_from 0 (count_of s.rows b - 0)) (number_at s b), length_up_from 0 (count_of s.rows b - 0))

  -- each stands there once
  held_lists : (b : ℕ) → b ≤ archetypes s.decl → Lists (Within b) (held b)
  unfolding held
  held_lists zero h = lists_as (λ m x. absurd x) (λ m x. absurd (omega (arith, x.2))) lists_none
  held_lists (suc b) h =
      lists_as
      (λ m x. ⊎_elim (λ (y : Within b m). (y.0, y.1, omega (arith, y.2), y.3, y.4)) (λ (y : Here b m). (b, y.0, omega arith, (omega arith, y.1.1), sym y.2)) x)
      (λ m x. ⊎_elim (λ (e : x.0 ≡ b). inr (x.1, (omega arith, rw e at x.3.1), sym (rw e at x.4))) (λ (ne : x.0 ≡ b → ⊥). inl (x.0, x.1, omega (arith, x.2, ne), x.3, x.4)) (same_or_not x.0 b))
      (lists_join
      (λ m x y. let q = sound.named_once x.0 x.1 b y.0 x.3 (omega arith, y.1.1) (x.4 ∙ y.2) in omega (arith, q.0, x.2))
      (held_lists b (omega arith))
      (lists_map (number_at s b) (λ r q x y e. (sound.named_once b r b q (omega arith, x.1) (omega arith, y.1) e).1) (lists_up 0 (count_of s.rows b))))
    where
      Here : ℕ → ℕ → Type 0
      Here b m = (r : ℕ) × Between 0 (count_of s.rows b) r × (m ≡ number_at s b r)

  -- those of all archetypes are the numbers that live
  live_lists : Lists (Lives s.ids) (held (archetypes s.decl))
  live_lists =
      lists_as (λ m x. rw (← x.4) (sound.row_lives x.0 x.1 x.3)) (λ m l. let (a, r, u, e) = sound.lives_named m l in (a, r, u.0, u, e)) (held_lists (archetypes s.decl) (omega arith))

  -- with the pending ones they are those below used
  all_lists : Lists (Between 0 s.ids.head.used) (held (archetypes s.decl) ++ slice 0 s.ids.head.pending s.ids.pending)
  all_lists =
      let ok = sound_ok s.ids sound.ids in
      lists_as
      (λ m x. ⊎_elim (λ (l : Lives s.ids m). (omega arith, l.0)) (λ (o : Old s.ids 0 s.ids.head.pending m). (omega arith, rw (← o.2) (sound.ids.pending_below o.0 o.1.1))) x)
      (λ m x. ⊎_elim (λ (p : Pending s.ids m). inr (p.0, (omega arith, p.1), p.2)) (λ (np : Pending s.ids m → ⊥). inl (x.1, np)) (pending? s.ids m))
      (lists_join (λ m l o. l.1 (o.0, o.1.1, o.2)) live_lists (old_lists s.ids sound.ids 0 s.ids.head.pending (omega arith) (omega arith)))

  pub rows_held : sum s.rows.counts + s.ids.head.pending ≡ s.ids.head.used
  rows_held =
      let ok = sound_ok s.ids sound.ids in
      let e = same_length all_lists (lists_up 0 s.ids.head.used) in
      let f = length-append (held (archetypes s.decl)) (slice 0 s.ids.head.pending s.ids.pending) in
      omega (arith, e, f, held_long (archetypes s.decl), first_all s.rows.counts (archetypes s.decl) (omega (arith, (sound_entered sound).rows.tabled.counts_long)), length-slice 0 s.ids.head.pending s.ids.pending (omega arith), length_up_from 0 (s.ids.head.used - 0))

  -- live = rows held
  pub live_rows : s.ids.head.live ≡ sum s.rows.counts
  live_rows = let ok = sound_ok s.ids sound.ids in omega (arith, rows_held)
