-- What passing the tests of a move gives, what a move into a target then is, and what its tests see.
-- Assumes nothing.
use Prim.{Unit, tt}
use Prim.Native.Nat.{ℕ, ◌<◌}
use mathlib.Core.Path.{◌≡◌, refl}
use mathlib.Core.Bool.{false}
use mathlib.Core.List.{List}
use mathlib.Core.Option.{Option, none, some}
use borrow.Author.Tests.{leb-false, lt-leb}
use Rattle.refusal.specs.Table.{granted, refused, ◌or_else◌, passing}
use Rattle.refusal.specs.Laws.{not_refused, passed_all, none_holds, value_of_lem, past, halted}
use Rattle.handle.specs.declared.Place.{Place}
use Rattle.borrow_word.specs.Slice.{any_held}
use Rattle.id_tables.specs.Ids.{place_at}
use Rattle.decl.specs.Decl.{rows_of}
use Rattle.decl.specs.Places.{span_of}
use Rattle.decl.specs.declared.Span.{Span}
use Rattle.row_step.specs.Tables.{count_of}
use Rattle.store_tables.specs.Store.{Store}
use Rattle.store_tables.specs.Rows.{archetype_of, row_of, moved_damaged}
use Rattle.store_tables.proofs.Places.{moved_seen_lem}
use Rattle.store_moves.specs.Moves.{move_rules, moved_to, moved_into}
use Rattle.store_moves.specs.Steps.{move_seen}

-- what passing the tests of a move gives
pub record MoveOk (s : Store) (n b : ℕ) : Type 0 where
  pub no_word : any_held s.words ≡ false
  pub row_unused : count_of s.rows b < rows_of s.decl b
  pub moved_good : moved_damaged s (archetype_of s n) (row_of s n) ≡ false

module _ (s : Store) (n b : ℕ) where
  pub move_ok : granted tt ≡ passing (move_rules s n b) → MoveOk s n b
  unfolding move_rules
  move_ok e = let p = none_holds _ e in record { no_word = p.0; row_unused = leb-false _ _ p.1.0; moved_good = p.1.1.0 }

  pub ok_move : MoveOk s n b → granted tt ≡ passing (move_rules s n b)
  unfolding move_rules ◌or_else◌
  ok_move k = rw (k.no_word, lt-leb _ _ k.row_unused, k.moved_good)

-- a move into a target: when it is granted, and what it leaves
module _ (s : Store) (n : ℕ) (run : List ℕ) where
  pub into_none : moved_into s n none run ≡ refused 14
  unfolding moved_into
  into_none = refl

  pub into_refused : (b : ℕ) {m : ℕ} → refused m ≡ passing (move_rules s n b) → moved_into s n (some b) run ≡ refused m
  unfolding moved_into
  into_refused b e = halted (move_rules s n b) _ e

  pub into_granted : (b : ℕ) → granted tt ≡ passing (move_rules s n b) → moved_into s n (some b) run ≡ granted (tt, moved_to s n b run)
  unfolding moved_into
  into_granted b e = past (move_rules s n b) _ e

  -- and only so
  pub into_parts : (o : Option ℕ) {x : Unit {0} × Store} → granted x ≡ moved_into s n o run → (b : ℕ) × (o ≡ some b) × MoveOk s n b × (x ≡ (tt, moved_to s n b run))
  unfolding moved_into
  into_parts none e = absurd (not_refused e)
  into_parts (some b) e =
      (b, refl, move_ok s n b (passed_all (move_rules s n b) _ e).0, value_of_lem (move_rules s n b) (tt, moved_to s n b run) e)

-- what `move_tested` saw
pub move_told : (s : Store) (n b : ℕ) (span : Span) (place : Place) → span ≡ span_of s.decl (archetype_of s n) → place ≡ place_at s.ids n
    → move_seen s span.row place.archetype place.index.0 b
    ≡ move_rules s n b
unfolding move_seen move_rules
move_told s n b span place p q = rw (p, q, moved_seen_lem s (archetype_of s n) (row_of s n))
