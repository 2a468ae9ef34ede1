-- No second result fits the contract of a public function: one instance for each, under its name.
-- Assumes nothing.
use Prim.{Unit}
use Prim.Native.Nat.{ℕ}
use mathlib.Core.Path.{◌≡◌, sym, ◌∙◌}
use mathlib.Core.List.{List}
use Rattle.std.specs.Prelude.{Option, Result}
use Rattle.refusal.specs.Table.{answer_of, passing}
use Rattle.refusal.specs.Laws.{sole_answer}
use Rattle.refusal.specs.Distinct.{tells}
use Rattle.refusal.specs.declared.Refusal.{Refusal}
use Rattle.decl.specs.Decl.{Decl}
use Rattle.decl.specs.Rules.{decl_rules}
use Rattle.decl.specs.Places.{spanned, measured}
use Rattle.decl.specs.Lookup.{searched, looked_up}
use Rattle.decl.specs.declared.Span.{Span}
use Rattle.decl.specs.declared.Totals.{Totals}

pub totals : (d : Decl) (r s : Result Totals Refusal) → answer_of r ≡ measured d → answer_of s ≡ measured d → r ≡ s
totals d r s p q = sole_answer answer_of tells r s p q

pub tested : (d : Decl) (r s : Result (Unit {0}) Refusal) → answer_of r ≡ passing (decl_rules d) → answer_of s ≡ passing (decl_rules d) → r ≡ s
tested d r s p q = sole_answer answer_of tells r s p q

pub find : (types : List ℕ) (kind : ℕ) (r s : Option ℕ) → r ≡ searched types kind → s ≡ searched types kind → r ≡ s
find types kind r s p q = p ∙ sym q

pub column_of_lem : (d : Decl) (archetype kind : ℕ) (r s : Result ℕ Refusal) → answer_of r ≡ looked_up d archetype kind → answer_of s ≡ looked_up d archetype kind → r ≡ s
column_of_lem d archetype kind r s p q = sole_answer answer_of tells r s p q

pub span_of : (d : Decl) (archetype : ℕ) (r s : Result Span Refusal) → answer_of r ≡ spanned d archetype → answer_of s ≡ spanned d archetype → r ≡ s
span_of d archetype r s p q = sole_answer answer_of tells r s p q
