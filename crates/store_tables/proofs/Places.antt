-- What the tests of places and the steps mean, on tables that passed the first tests.
-- Assumes nothing.
use Prim.Native.Nat.{ℕ, ◌<◌, ◌≤◌}
use native.Mathlib.Omega.{arith}
use mathlib.Core.Path.{◌≡◌, refl, sym, ap, ◌∙◌}
use mathlib.Core.Bool.{Bool, true, false, cond}
use mathlib.Core.List.{List}
use mathlib.Core.Option.{Option, none, some}
use lib.Dec.{ltb, eqb}
use borrow.Author.Tests.{ltb-true, eqb-true}
use Rattle.refusal.specs.Truth.{and_parts}
use Rattle.id_tables.specs.Ids.{ids_of}
use Rattle.decl.specs.Decl.{archetypes, rows_of, sizes_of}
use Rattle.decl.specs.Places.{span_of}
use Rattle.decl.specs.declared.Span.{Span}
use Rattle.row_step.specs.Tables.{Rows, count_of, last_of}
use Rattle.column_entry.specs.Entry.{block_in}
use Rattle.column_entry.proofs.Keeping.{span_kept}
use Rattle.store_steps.specs.Seats.{Seats, seats_of, vacated_seats}
use Rattle.store_steps.proofs.Laws.{left_last, left_other}
use Rattle.store_tables.specs.Store.{Store, store_of}
use Rattle.store_tables.specs.Rows.{number_at, archetype_of, row_of, owns, moved_damaged, vacated}
use Rattle.store_tables.specs.Kept.{Entered}
use Rattle.store_tables.specs.Seen.{own_seen, moved_seen}

-- the own place
module _ (s : Store) (n : ℕ) (e : Entered s) where
  seen : Option Span
  seen = own_seen s.decl s.rows.numbers s.rows.counts (archetype_of s n) (row_of s n) n

  own_is : seen ≡ cond (owns s n) (some (span_of s.decl (archetype_of s n))) none
  unfolding seen own_seen owns
  own_is = by (ltb (archetype_of s n) (archetypes s.decl)) refl
    where
      by : (b : Bool) → ltb (archetype_of s n) (archetypes s.decl) ≡ b → seen ≡ cond (owns s n) (some (span_of s.decl (archetype_of s n))) none
      by true t = rw (span_kept s.decl (archetype_of s n) e.rows.tabled.kept (omega (arith, ltb-true (archetype_of s n) (archetypes s.decl) t)))
      by false t = rw t

  no_span : {x : Span} → some x ≡ none → ⊥
  no_span e = let z : ◌≡◌ {A = ℕ} 0 1 = cc in omega arith

  split : (b : Bool) (x y : Span) → some x ≡ cond b (some y) none → (b ≡ true) × (x ≡ y)
  split true x y p = (refl, cc)
  split false x y p = absurd (no_span p)

  missed : (b : Bool) (y : Span) → none ≡ cond b (some y) none → b ≡ false
  missed true y p = absurd (no_span (sym p))
  missed false y p = refl

  -- what a caller has learnt from each answer of `own_place`
  pub owned : (span : Span) → some span ≡ own_seen s.decl s.rows.numbers s.rows.counts (archetype_of s n) (row_of s n) n
      → (owns s n ≡ true) × (span ≡ span_of s.decl (archetype_of s n))
  unfolding seen
  owned span p = split (owns s n) span (span_of s.decl (archetype_of s n)) (p ∙ own_is)

  pub not_owned : none ≡ own_seen s.decl s.rows.numbers s.rows.counts (archetype_of s n) (row_of s n) n → owns s n ≡ false
  unfolding seen
  not_owned p = missed (owns s n) (span_of s.decl (archetype_of s n)) (p ∙ own_is)

-- a row that is a number's own place
pub record Owned (s : Store) (n : ℕ) : Type 0 where
  pub archetype_in : archetype_of s n < archetypes s.decl
  pub row_in : row_of s n < count_of s.rows (archetype_of s n)
  pub held : number_at s (archetype_of s n) (row_of s n) ≡ n

pub owns_means : (s : Store) (n : ℕ) → owns s n ≡ true → Owned s n
unfolding owns
owns_means s n e =
    let p = and_parts (ltb (archetype_of s n) (archetypes s.decl)) _ e in
    let q = and_parts (ltb (row_of s n) (count_of s.rows (archetype_of s n))) _ p.1 in
    record { archetype_in = ltb-true _ _ p.0; row_in = ltb-true _ _ q.0; held = eqb-true _ _ q.1 }

-- the moved number
pub moved_seen_lem : (s : Store) (a r : ℕ)
    → moved_seen (span_of s.decl a).row s.ids.head.used s.ids.archetypes s.ids.indices s.rows.numbers s.rows.counts a r ≡ moved_damaged s a r
unfolding moved_seen moved_damaged
moved_seen_lem s a r = refl

-- a row that leaves
module _ (s : Store) (a r : ℕ) (archetypes indices : List ℕ) (w : Rows) (here : r < count_of s.rows a) (used : count_of s.rows a ≤ rows_of s.decl a) where
  abbrev before : Seats
  before = seats_of s.ids.archetypes s.ids.indices s.rows

  abbrev after : Store
  after = store_of s.decl (ids_of s.ids.head s.ids.generations archetypes indices s.ids.pending) w s.words

  same_seats : {t : Seats} → seats_of archetypes indices w ≡ t → (archetypes ≡ t.archetypes) × (indices ≡ t.indices) × (w ≡ t.rows)
  same_seats p = (ap (λ (t : Seats). t.archetypes) p, ap (λ (t : Seats). t.indices) p, ap (λ (t : Seats). t.rows) p)

  pub vacating : seats_of archetypes indices w ≡ vacated_seats (block_in s.decl a) (sizes_of s.decl a) before a r → after ≡ vacated s a r
  unfolding vacated
  vacating p = by (eqb r (last_of s.rows a)) refl
    where
      by : (b : Bool) → eqb r (last_of s.rows a) ≡ b → after ≡ vacated s a r
      by true e = let q = same_seats (p ∙ left_last _ _ before a r here used e) in rw (q.0, q.1, q.2, e)
      by false e = let q = same_seats (p ∙ left_other _ _ before a r here used e) in rw (q.0, q.1, q.2, e)
