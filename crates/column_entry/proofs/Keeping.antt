-- What the tests of a column call give it.
-- Assumes nothing.
use Prim.{Unit, tt}
use Prim.Native.Nat.{ℕ, ◌≤◌, ◌<◌}
use mathlib.Core.Bool.{not}
use mathlib.Core.List.{List}
use mathlib.Core.Logic.{⊎_elim}
use mathlib.Core.Path.{◌≡◌, sym, ap}
use native.Mathlib.Omega.{arith}
use borrow.Author.Tests.{eq-eqb, ne_eqb, le-leb, lt-leb, eqb-true, leb-false, ltb-false, not-false}
use lib.ListN.{length, get_or, get_or-eq_default}
use Rattle.refusal.specs.Table.{Answer, granted, refused, passing}
use Rattle.refusal.specs.Laws.{passed, both}
use Rattle.decl.specs.Decl.{Decl, archetypes, rows_of}
use Rattle.decl.specs.Rules.{decl_rules}
use Rattle.decl.specs.Places.{span_of, measured}
use Rattle.decl.specs.declared.Totals.{Totals}
use Rattle.decl.proofs.Lists.{any_at, below_or_not}
use Rattle.decl.proofs.Keeping.{declared}
use Rattle.decl.proofs.Lending.{span_in_lem}
use Rattle.decl.proofs.Measuring.{measure_refused, measure_passed, measure_is}
use Rattle.row_step.specs.Tables.{Rows}
use Rattle.column_entry.specs.Entry.{span_or, span_in, lengths_for, length_rules, table_rules, is_over, count_rules, entry_rules, row_rules}
use Rattle.column_entry.specs.Kept.{Kept, Tabled, Ready, There}
use Rattle.refusal.specs.Chain.{applies, onward, through, stop, go}

pub kept : (d : Decl) → granted tt ≡ passing (decl_rules d) → Kept d
kept d e = record { passes = e; declared = declared d e }

-- of a declaration that passes its tests
pub span_kept : (d : Decl) (a : ℕ) → Kept d → a ≤ archetypes d → span_in d a ≡ span_of d a
unfolding span_in
span_kept d a k h = ap span_or (sym (span_in_lem d a k.passes h))

-- the lengths, compared with what all archetypes take
module _ (rows archetypes size numbers counts bytes : ℕ) where
  pub numbers_wrong : (numbers ≡ rows → ⊥) → refused 13 ≡ passing (lengths_for rows archetypes size numbers counts bytes)
  unfolding lengths_for
  numbers_wrong h = applies 13 _ (ap not (ne_eqb _ _ h))

  module _ (p : numbers ≡ rows) where
    pub counts_wrong : (counts ≡ archetypes → ⊥) → refused 13 ≡ passing (lengths_for rows archetypes size numbers counts bytes)
    unfolding lengths_for
    counts_wrong h = onward 13 _ (ap not (eq-eqb _ _ p)) (applies 13 _ (ap not (ne_eqb _ _ h)))

    module _ (q : counts ≡ archetypes) where
      pub bytes_wrong : (bytes ≡ size → ⊥) → refused 13 ≡ passing (lengths_for rows archetypes size numbers counts bytes)
      unfolding lengths_for
      bytes_wrong h = onward 13 _ (ap not (eq-eqb _ _ p)) (onward 13 _ (ap not (eq-eqb _ _ q)) (applies 13 _ (ap not (ne_eqb _ _ h))))

      pub lengths_right : bytes ≡ size → granted tt ≡ passing (lengths_for rows archetypes size numbers counts bytes)
      unfolding lengths_for
      lengths_right h = onward 13 _ (ap not (eq-eqb _ _ p)) (onward 13 _ (ap not (eq-eqb _ _ q)) (onward 13 _ (ap not (eq-eqb _ _ h)) through))

-- the declaration's tests, then the lengths
module _ (d : Decl) (w : Rows) where
  pub declaration_halts : {n : ℕ} → refused n ≡ measured d → refused n ≡ passing (table_rules d w)
  unfolding table_rules
  declaration_halts e = stop (decl_rules d) (length_rules d w) (measure_refused d e)

  pub lengths_told : {all : Totals} {a : Answer (Unit {0})} → granted all ≡ measured d → a ≡ passing (lengths_for all.rows (archetypes d) all.bytes (length w.numbers) (length w.counts) (length w.bytes))
      → a ≡ passing (table_rules d w)
  unfolding table_rules length_rules
  lengths_told e h = go (decl_rules d) (length_rules d w) (measure_passed d e) (rw (measure_is d e) at h)

-- a row that is named
module _ (rows counts : List ℕ) (a r : ℕ) where
  pub no_archetype : length rows ≤ a → refused 6 ≡ passing (row_rules rows counts a r)
  unfolding row_rules
  no_archetype h = applies 6 _ (le-leb _ _ h)

  pub no_row : (n : ℕ) → n ≡ get_or counts a 0 → a < length rows → n ≤ r → refused 6 ≡ passing (row_rules rows counts a r)
  unfolding row_rules
  no_row n e l h = onward 6 _ (lt-leb _ _ l) (applies 6 _ (le-leb (get_or counts a 0) r (rw e at h)))

  pub row_there : (n : ℕ) → n ≡ get_or counts a 0 → a < length rows → r < n → granted tt ≡ passing (row_rules rows counts a r)
  unfolding row_rules
  row_there n e l h = onward 6 _ (lt-leb _ _ l) (onward 6 _ (lt-leb (get_or counts a 0) r (rw e at h)) through)

-- What each run of tests gives.
module _ (d : Decl) (w : Rows) where
  pub tabled : granted tt ≡ passing (table_rules d w) → Tabled d w
  unfolding table_rules length_rules lengths_for
  tabled e =
      let p = both (decl_rules d) _ e in
      let p1 = passed 13 _ _ _ p.1 in
      let p2 = passed 13 _ _ _ p1.1 in
      let p3 = passed 13 _ _ _ p2.1 in
      record {
        kept = kept d p.0;
        numbers_long = eqb-true _ _ (not-false _ p1.0);
        counts_long = eqb-true _ _ (not-false _ p2.0);
        bytes_long = eqb-true _ _ (not-false _ p3.0);
      }

  pub counted : Tabled d w → granted tt ≡ passing (count_rules d.rows w.counts) → Ready d w
  unfolding count_rules is_over
  counted t e =
      record {
        tabled = t;
        counts_in = λ a. ⊎_elim
            (λ (h : a < archetypes d). ltb-false _ _ (any_at (is_over d.rows w.counts) (archetypes d) (passed 1 _ _ _ e).0 a h))
            (λ (h : archetypes d ≤ a). rw (get_or-eq_default w.counts 0 {n = a} (omega (arith, t.counts_long))) (omega arith))
            (below_or_not a (archetypes d));
      }

  pub ready : granted tt ≡ passing (entry_rules d w) → Ready d w
  unfolding entry_rules
  ready e = let p = both (table_rules d w) _ e in counted (tabled p.0) p.1

  pub there : (a r : ℕ) → Ready d w → granted tt ≡ passing (row_rules d.rows w.counts a r) → There d w a r
  unfolding row_rules
  there a r g e =
      let p1 = passed 6 _ _ _ e in
      let p2 = passed 6 _ _ _ p1.1 in
      record { ready = g; archetype_in = leb-false _ _ p1.0; row_in = leb-false _ _ p2.0 }

pub row_within : {d : Decl} {w : Rows} {a r : ℕ} → There d w a r → r < rows_of d a
row_within {a = a} t = omega (arith, t.row_in, t.ready.counts_in a)
