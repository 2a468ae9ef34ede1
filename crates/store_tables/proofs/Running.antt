-- The run that a call is given: when it is of the right length, and the first tests of the call, which look at the length before the declaration is known to be good.
-- Assumes nothing.
use Prim.{Unit, tt}
use Prim.Native.Nat.{ℕ, ◌<◌}
use native.Mathlib.Omega.{arith}
use mathlib.Core.Path.{◌≡◌, refl, sym, ap, ◌∙◌}
use mathlib.Core.Bool.{Bool, true, false, not, ◌&&◌}
use mathlib.Core.List.{List}
use lib.Dec.{ltb, eqb}
use lib.ListN.{length}
use borrow.Author.Tests.{ltb-true, lt-ltb, eq-eqb, eqb-true, not-false}
use Rattle.refusal.specs.Table.{Answer, granted, refused, passing}
use Rattle.id_tables.specs.Ids.{capacity, capacity_rules}
use Rattle.decl.specs.Decl.{Decl, archetypes}
use Rattle.decl.specs.Rules.{decl_rules}
use Rattle.decl.specs.Places.{row_width}
use Rattle.decl.specs.declared.Span.{Span}
use Rattle.column_entry.specs.Entry.{span_in, table_rules}
use Rattle.column_entry.proofs.Keeping.{kept, tabled, span_kept}
use Rattle.store_tables.specs.Store.{Store, entry}
use Rattle.store_tables.specs.Run.{run_wrong}
use Rattle.store_tables.proofs.Entering.{at_capacity, at_tables}

-- a length that is right or wrong where the declaration passes its tests makes no difference where it does not
module _ (s : Store) (x y : Bool) (h : granted tt ≡ passing (decl_rules s.decl) → x ≡ y) where
  past_capacity : granted tt ≡ passing (capacity_rules (capacity s.ids)) → (t : Answer (Unit {0})) → passing (table_rules s.decl s.rows) ≡ t → passing (entry s x) ≡ passing (entry s y)
  past_capacity c (granted u) e = ap (λ (b : Bool). passing (entry s b)) (h (tabled s.decl s.rows (sym e)).kept.passes)
  past_capacity c (refused m) e = at_tables s x c (sym e) ∙ sym (at_tables s y c (sym e))

  same_entry : passing (entry s x) ≡ passing (entry s y)
  same_entry = by (passing (capacity_rules (capacity s.ids))) refl
    where
      by : (t : Answer (Unit {0})) → passing (capacity_rules (capacity s.ids)) ≡ t → passing (entry s x) ≡ passing (entry s y)
      by (granted u) e = past_capacity (sym e) (passing (table_rules s.decl s.rows)) refl
      by (refused m) e = at_capacity s x (sym e) ∙ sym (at_capacity s y (sym e))

-- the run's length
module _ (d : Decl) (a : ℕ) (run : List ℕ) (span : Span) (p : span ≡ span_in d a) where
  width_seen : granted tt ≡ passing (decl_rules d) → (ltb a (archetypes d) && not (eqb (length run) span.bytes)) ≡ run_wrong d a run
  unfolding run_wrong
  width_seen e = by (ltb a (archetypes d)) refl
    where
      by : (b : Bool) → ltb a (archetypes d) ≡ b → (ltb a (archetypes d) && not (eqb (length run) span.bytes)) ≡ run_wrong d a run
      by true t = rw (p, span_kept d a (kept d e) (omega (arith, ltb-true a (archetypes d) t)))
      by false t = rw t

-- the first tests, with the length as the code has seen it
pub first_tests : (s : Store) (a : ℕ) (run : List ℕ) (span : Span) (short : Bool) → span ≡ span_in s.decl a
    → short ≡ (ltb a (archetypes s.decl) && not (eqb (length run) span.bytes)) → passing (entry s short) ≡ passing (entry s (run_wrong s.decl a run))
first_tests s a run span short p q = same_entry s short (run_wrong s.decl a run) (λ e. q ∙ width_seen s.decl a run span p e)

-- where the run is of the row's width
module _ (d : Decl) (a : ℕ) (run : List ℕ) where
  pub run_right : length run ≡ row_width d a → run_wrong d a run ≡ false
  unfolding run_wrong
  run_right e = rw (eq-eqb (length run) (row_width d a) e) (none (ltb a (archetypes d)))
    where
      none : (b : Bool) → (b && false) ≡ false
      none true = refl
      none false = refl

  pub right_run : a < archetypes d → run_wrong d a run ≡ false → length run ≡ row_width d a
  unfolding run_wrong
  right_run h e = eqb-true _ _ (not-false _ (rw (lt-ltb a (archetypes d) h) at e))
