-- What a declaration takes: its tests, then its totals.
-- Assumes nothing.
use Prim.{tt}
use Prim.Native.Nat.{ℕ, ◌≤◌, ◌<◌}
use mathlib.Core.Bool.{true, false}
use mathlib.Core.Path.{◌≡◌, sym, ap, ◌∙◌}
use mathlib.Core.List.{List, [], ◌∷◌}
use native.Mathlib.Omega.{arith}
use lib.ListN.{length}
use Rattle.std.specs.Prelude.{Option, Some}
use Rattle.refusal.specs.Table.{Rule, ◌when◌, granted, refused, ◌or_else◌, ◌otherwise◌, passing}
use Rattle.refusal.specs.Laws.{not_refused, passed_all, value_of_lem, past, halted}
use Rattle.decl.specs.Limits.{max_archetypes}
use Rattle.decl.specs.Decl.{Decl, archetypes, width_of, first_row}
use Rattle.decl.specs.Rules.{decl_rules}
use Rattle.decl.specs.Kept.{Shaped}
use Rattle.decl.specs.Places.{base_of, span_of, spanned, totals_of, measured}
use Rattle.decl.specs.Steps.{Plain, Settled}
use Rattle.decl.specs.declared.Span.{Span}
use Rattle.decl.specs.declared.Totals.{Totals}
use Rattle.decl.proofs.Checks.{plain_passes}
use Rattle.decl.proofs.Keeping.{shaped, declared_shape}
use Rattle.decl.proofs.Glancing.{Passing, passing_end}
use Rattle.decl.proofs.Counting.{Counted, counted_shape}
use Rattle.decl.proofs.Spanning.{span_shaped}

-- a refusal before a value is one of the tests
refused_first : {A : Type 0} {m : ℕ} (rules : List Rule) (v : A) → refused m ≡ (rules otherwise v) → refused m ≡ passing rules
unfolding ◌or_else◌
refused_first [] v e = absurd (not_refused (sym e))
refused_first (n when true ∷ rest) v e = cc
refused_first (n when false ∷ rest) v e = refused_first rest v e

module _ (d : Decl) where
  pub measure_halts : {n : ℕ} → refused n ≡ passing (decl_rules d) → refused n ≡ measured d
  unfolding measured
  measure_halts e = sym (halted (decl_rules d) _ e)

  pub measure_told : {rows bytes : ℕ} → granted tt ≡ passing (decl_rules d) → rows ≡ first_row d (archetypes d) → bytes ≡ base_of d (archetypes d)
      → granted (record { rows = rows; bytes = bytes }) ≡ measured d
  unfolding measured
  measure_told e p q = rw (p, q) (sym (past (decl_rules d) _ e))

  -- what the answer says of the tests, and of the totals
  pub measure_refused : {n : ℕ} → refused n ≡ measured d → refused n ≡ passing (decl_rules d)
  unfolding measured
  measure_refused e = refused_first (decl_rules d) _ e

  module _ {t : Totals} (e : granted t ≡ measured d) where
    pub measure_passed : granted tt ≡ passing (decl_rules d)
    unfolding measured
    measure_passed = (passed_all (decl_rules d) _ e).0

    pub measure_is : t ≡ totals_of d
    unfolding measured
    measure_is = value_of_lem (decl_rules d) _ e

  -- the span of all archetypes has the totals
  module _ (e : granted tt ≡ passing (decl_rules d)) where
    spanned_all : spanned d (archetypes d) ≡ granted (span_of d (archetypes d))
    spanned_all = span_shaped d (archetypes d) (shaped d (declared_shape d e)) (omega arith)

    pub span_measures : {s : Span} → granted s ≡ spanned d (archetypes d) → granted (record { rows = s.row; bytes = s.base }) ≡ measured d
    span_measures {s} q =
        let j : granted s ≡ granted (span_of d (archetypes d)) = q ∙ spanned_all in
        let p : s ≡ span_of d (archetypes d) = cc in
        measure_told e (ap (λ (t : Span). t.row) p) (ap (λ (t : Span). t.base) p)

    pub span_refused : {n : ℕ} → refused n ≡ spanned d (archetypes d) → ⊥
    span_refused q = not_refused (sym (q ∙ spanned_all))

  -- what the quick look settles
  pub settled : {rows bytes : ℕ} → Shaped d → Plain d.widths d.types d.sizes (length d.widths) → rows ≡ first_row d (archetypes d) → bytes ≡ base_of d (archetypes d)
      → Settled d (Some (record { rows = rows; bytes = bytes }))
  settled g p r b = record { told = measure_told (plain_passes d g p) r b }

  pub look_settles : {row column base a : ℕ} {seen sized marks : List ℕ} → Counted d row column base a → Passing d.widths d.types d.sizes seen sized marks column a
      → a ≡ archetypes d → 0 < archetypes d → archetypes d ≤ max_archetypes → length d.widths ≡ archetypes d → width_of d 0 ≡ 0 → length d.types ≡ column → length d.sizes ≡ length d.types
      → Settled d (Some (record { rows = row; bytes = base }))
  look_settles c w e some few long bare types sizes =
      settled (counted_shape d c e some few long bare types (sizes ∙ types)) (passing_end _ _ _ w c.columns_passed (e ∙ sym long))
      (c.rows_passed ∙ ap (first_row d) e) (c.bytes_passed ∙ ap (base_of d) e)

  pub settles : {r : Option Totals} {t : Totals} → Settled d r → r ≡ Some t → granted t ≡ measured d
  settles s e = rw e at s.told
