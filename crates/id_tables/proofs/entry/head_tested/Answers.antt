-- `id_tables::entry::head_tested` meets its contract: each return rewrites with the tests that led there.
use mathlib.Core.Path.{ap}
use mathlib.Core.Bool.{not}
use Rattle.std.proofs.Common.{◌-◌, sym, ◌∙◌, le-ltb, lt-ltb, eq-eqb, ne_eqb}
use borrow.Author.Tests.{not-true, not-false}
use Rattle.refusal.specs.Table.{◌or_else◌}
use Rattle.id_tables.specs.Head.{head_rules}
use Rattle.id_tables.proofs.Cursor.{cursor_broken, cursor_held}
use Rattle.id_tables.proofs.entry.head_tested.Goals as goal

pub returns-then-capacity-head : goal.returns-then-capacity-head
unfolding head_rules ◌or_else◌
returns-then-capacity-head c = simp (lt-ltb _ _ c.if-capacity-head.true)

pub returns-then-head : goal.returns-then-head
unfolding head_rules ◌or_else◌
returns-then-head c = simp (le-ltb _ _ c.if-capacity-head.false, lt-ltb _ _ c.if-head.true)

pub returns-then-not-cursor_fits : goal.returns-then-not-cursor_fits
returns-then-not-cursor_fits c = sym (cursor_broken _ _ c.if-capacity-head.false c.if-head.false (sym c.cursor_fits.ensures ∙ not-true _ (ap not c.if-not-cursor_fits.true)))

pub returns-then-head-2 : goal.returns-then-head-2
unfolding ◌or_else◌
returns-then-head-2 c =
    sym (cursor_held _ _ c.if-capacity-head.false c.if-head.false (sym c.cursor_fits.ensures ∙ not-false _ (ap not c.if-not-cursor_fits.false)) ∙ simp (ne_eqb c.args.head.live (c.args.head.used - c.args.head.pending) c.if-head-2.true))

pub returns : goal.returns
unfolding ◌or_else◌
returns c =
    sym (cursor_held _ _ c.if-capacity-head.false c.if-head.false (sym c.cursor_fits.ensures ∙ not-false _ (ap not c.if-not-cursor_fits.false)) ∙ simp (eq-eqb c.args.head.live (c.args.head.used - c.args.head.pending) c.if-head-2.false))
