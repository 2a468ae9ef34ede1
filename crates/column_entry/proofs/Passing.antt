-- Tables that are as the first tests ask pass them.
-- Assumes nothing.
use Prim.{tt}
use mathlib.Core.Path.{◌≡◌, ap}
use mathlib.Core.Bool.{not}
use borrow.Author.Tests.{eq-eqb, le-ltb}
use Rattle.refusal.specs.Table.{granted, passing}
use Rattle.decl.specs.Decl.{Decl, archetypes}
use Rattle.decl.specs.Rules.{decl_rules}
use Rattle.decl.proofs.Lists.{any_false}
use Rattle.row_step.specs.Tables.{Rows}
use Rattle.column_entry.specs.Entry.{lengths_for, length_rules, table_rules, is_over, count_rules}
use Rattle.column_entry.specs.Kept.{Tabled, Ready}
use Rattle.refusal.specs.Chain.{onward, through, go}

module _ (d : Decl) (w : Rows) where
  pub tables_pass : Tabled d w → granted tt ≡ passing (table_rules d w)
  unfolding table_rules length_rules lengths_for
  tables_pass t =
      go (decl_rules d) (length_rules d w) t.kept.passes
      (onward 13 _ (ap not (eq-eqb _ _ t.numbers_long)) (onward 13 _ (ap not (eq-eqb _ _ t.counts_long)) (onward 13 _ (ap not (eq-eqb _ _ t.bytes_long)) through)))

  pub counts_pass : Ready d w → granted tt ≡ passing (count_rules d.rows w.counts)
  unfolding count_rules is_over
  counts_pass g = onward 1 _ (any_false (is_over d.rows w.counts) (archetypes d) (λ a h. le-ltb _ _ (g.counts_in a))) through
