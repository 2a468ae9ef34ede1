-- What the tests of the id layer say, for callers that do not open them.
-- Assumes nothing.
use Prim.{tt}
use Rattle.std.proofs.Common.{◌≡◌, ℕ, ◌-◌, ◌<◌, ◌≤◌, Bool, true, false, eqb, ltb, List, length, get_or, refl, arith, ltb-true, le-ltb, lt-ltb, eq-eqb, ne_eqb, eqb-true, leb-false}
use mathlib.Core.Bool.{and-false, or-false}
use borrow.Author.Tests.{lt-leb, eqb-false, not-true, not-false}
use lib.Seq.{slice_empty}
use Rattle.refusal.specs.Table.{granted, ◌or_else◌, passing}
use Rattle.handle.specs.Bits.{MAX}
use Rattle.id_tables.specs.declared.head.Head.{Head}
use Rattle.id_tables.specs.Head.{free_of, new_of, flushed, flushed_head, head_rules}
use Rattle.id_tables.specs.Ids.{Ids, capacity_rules, length_rules, entry, damaged_in, live, live_in, EntryOk}
use Rattle.id_tables.specs.Lookup.{any_is, is_reserved_old, reserved_new, is_contained}
use Rattle.refusal.specs.Truth.{and_parts, neither}
use Rattle.id_tables.proofs.Laws.{new_means}

-- Flushed: every pending entry is free, and no new number is reserved
module _ (h : Head) (e : flushed h ≡ true) where
  pub flushed_free : free_of h.cursor ≡ h.pending
  unfolding flushed
  flushed_free = eqb-true _ _ (and_parts _ _ e).0

  pub flushed_new : new_of h.cursor ≡ 0
  unfolding flushed
  flushed_new = eqb-true _ _ (and_parts (eqb (free_of h.cursor) h.pending) _ e).1

pub head_flushed : (used pending live : ℕ) → flushed (flushed_head used pending live) ≡ true
unfolding flushed
head_flushed used pending live = simp (eq-eqb pending pending refl)

-- a pending entry that passes the tests of damage
pub record Undamaged (used : ℕ) (generations indices : List ℕ) (n : ℕ) : Type 0 where
  pub below : n < used
  pub generation : get_or generations n 0 ≡ 0 → ⊥
  pub index : get_or indices n 0 ≡ MAX

-- a number below used with this generation and a place
pub record Live (used : ℕ) (generations indices : List ℕ) (k n : ℕ) : Type 0 where
  pub below : n < used
  pub generation : get_or generations n 0 ≡ k
  pub index : get_or indices n 0 ≡ MAX → ⊥

module _ (used : ℕ) (generations indices : List ℕ) where
  pub undamaged : (n : ℕ) → damaged_in used generations indices n ≡ false → Undamaged used generations indices n
  unfolding damaged_in
  undamaged n e =
      let a = neither _ _ e in
      let b = neither _ _ a.1 in
      record { below = leb-false _ _ a.0; generation = eqb-false _ _ b.0; index = eqb-true _ _ (not-false _ b.1) }

  pub not_damaged : (n : ℕ) → Undamaged used generations indices n → damaged_in used generations indices n ≡ false
  unfolding damaged_in
  not_damaged n u = simp (lt-leb _ _ u.below, ne_eqb _ _ u.generation, eq-eqb _ _ u.index)

  pub lives : (k n : ℕ) → live_in used generations indices k n ≡ true → Live used generations indices k n
  unfolding live_in
  lives k n e =
      let a = and_parts _ _ e in
      let b = and_parts _ _ a.1 in
      record { below = ltb-true _ _ a.0; generation = eqb-true _ _ b.0; index = eqb-false _ _ (not-true _ b.1) }

  pub is_live : (k n : ℕ) → Live used generations indices k n → live_in used generations indices k n ≡ true
  unfolding live_in
  is_live k n l = simp (lt-ltb _ _ l.below, eq-eqb _ _ l.generation, ne_eqb _ _ l.index)

  -- a number at or past used, or without a place, is not live at any generation
  pub past_not_live : (k n : ℕ) → used ≤ n → live_in used generations indices k n ≡ false
  unfolding live_in
  past_not_live k n h = simp (le-ltb _ _ h)

  pub empty_not_live : (k n : ℕ) → get_or indices n 0 ≡ MAX → live_in used generations indices k n ≡ false
  unfolding live_in
  empty_not_live k n e = simp (eq-eqb _ _ e, and-false)

  -- tables that agree on a number agree on whether it is live
  pub live_same : (used' : ℕ) (generations' indices' : List ℕ) (k n : ℕ) → ltb n used' ≡ ltb n used → get_or generations' n 0 ≡ get_or generations n 0
      → get_or indices' n 0 ≡ get_or indices n 0 → live_in used' generations' indices' k n ≡ live_in used generations indices k n
  unfolding live_in
  live_same used' generations' indices' k n u g x = rw (u, g, x)

-- where nothing is reserved, contained means live
pub flushed_contained : (s : Ids) (g n : ℕ) → flushed s.head ≡ true → is_contained s g n ≡ live s g n
unfolding is_contained is_reserved_old any_is
flushed_contained s g n f =
    rw (flushed_free s.head f, slice_empty s.head.pending s.pending, none_new (reserved_new s.head g n) refl) (simp (and-false, or-false))
  where
    none_new : (b : Bool) → reserved_new s.head g n ≡ b → reserved_new s.head g n ≡ false
    none_new true e = let r = new_means s g n e in absurd (omega (arith, r.past_used, r.within, flushed_new s.head f))
    none_new false e = e

-- tables and a head that keep the rules pass the first tests
pub ok_passes : (s : Ids) → EntryOk s → passing (entry s false) ≡ granted tt
unfolding entry capacity_rules length_rules head_rules ◌or_else◌
ok_passes s ok =
    simp (le-ltb _ _ ok.small, eq-eqb _ _ ok.archetypes_long, eq-eqb _ _ ok.indices_long, eq-eqb _ _ ok.pending_long, le-ltb _ _ ok.used_in, le-ltb _ _ ok.pending_in, le-ltb _ _ ok.free_in, le-ltb _ _ fits, eq-eqb _ _ ok.live_is)
  where
    fits : new_of s.head.cursor ≤ length s.generations - s.head.used
    fits = omega arith
