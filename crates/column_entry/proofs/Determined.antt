-- The contracts determine the result: no second result fits. One instance a function, under its name.
-- Assumes nothing.
use Prim.{Unit}
use Prim.Native.Nat.{ℕ}
use mathlib.Core.Bool.{Bool}
use mathlib.Core.List.{List}
use mathlib.Core.Path.{◌≡◌, sym, ◌∙◌}
use lib.ListN.{get_or}
use Rattle.std.specs.Prelude.{Result}
use Rattle.refusal.specs.Table.{Rule, answer_of, passing}
use Rattle.refusal.specs.Laws.{sole_answer}
use Rattle.refusal.specs.Distinct.{tells}
use Rattle.refusal.specs.declared.Refusal.{Refusal}
use Rattle.decl.specs.Decl.{Decl}
use Rattle.decl.specs.declared.Span.{Span}
use Rattle.row_step.specs.Tables.{Rows}
use Rattle.column_entry.specs.Entry.{span_in, table_rules, count_rules, entry_rules, row_rules, wrong_size}

-- one result of a run of tests
abbrev OneTest : List Rule → Type 0
OneTest rules = (r s : Result (Unit {0}) Refusal) → answer_of r ≡ passing rules → answer_of s ≡ passing rules → r ≡ s

one : (rules : List Rule) → OneTest rules
one rules r s d e = sole_answer answer_of tells r s d e

pub span : (d : Decl) (a : ℕ) (r s : Span) → r ≡ span_in d a → s ≡ span_in d a → r ≡ s
span d a r s p q = p ∙ sym q

pub count_of : (counts : List ℕ) (a r s : ℕ) → r ≡ get_or counts a 0 → s ≡ get_or counts a 0 → r ≡ s
count_of counts a r s p q = p ∙ sym q

pub tables_tested : (d : Decl) (w : Rows) → OneTest (table_rules d w)
tables_tested d w = one (table_rules d w)

pub counts_tested : (rows counts : List ℕ) → OneTest (count_rules rows counts)
counts_tested rows counts = one (count_rules rows counts)

pub tested : (d : Decl) (w : Rows) → OneTest (entry_rules d w)
tested d w = one (entry_rules d w)

pub row_tested : (rows counts : List ℕ) (a r : ℕ) → OneTest (row_rules rows counts a r)
row_tested rows counts a r = one (row_rules rows counts a r)

pub wrong_size_lem : (types sizes : List ℕ) (t n : ℕ) (r s : Bool) → r ≡ wrong_size types sizes t n → s ≡ wrong_size types sizes t n → r ≡ s
wrong_size_lem types sizes t n r s p q = p ∙ sym q
