-- `id_batches::many::many_alloced` meets its contract: each return is a way through its rule.
use mathlib.Core.Path.{ap}
use mathlib.Core.Bool.{not}
use native.Mathlib.Omega.{arith}
use borrow.Author.Rules.{rules}
use mathlib.Core.Path.{sym, ◌∙◌}
use borrow.Author.Tests.{not-true, not-false}
use Rattle.refusal.specs.Laws.{refuse}
use Rattle.id_tables.specs.Ids.{ids_of}
use Rattle.id_batches.proofs.Ways.{many_whole, many_unflushed, many_past, many_full, many_damaged, many_done}
use Rattle.id_batches.proofs.many.many_alloced.Goals as goal

pub returns-then-not-is_flushed : goal.returns-then-not-is_flushed
returns-then-not-is_flushed c = refuse (many_unflushed _ _ _ _ (sym c.is_flushed.ensures ∙ not-true _ (ap not c.if-not-is_flushed.true)))

pub returns-then-first-n : goal.returns-then-first-n
returns-then-first-n c = refuse (many_past _ _ _ _ (sym c.is_flushed.ensures ∙ not-false _ (ap not c.if-not-is_flushed.false)) c.if-first-n.true)

pub returns-then-count-generations : goal.returns-then-count-generations
returns-then-count-generations c = refuse (many_full _ _ _ _ (sym c.is_flushed.ensures ∙ not-false _ (ap not c.if-not-is_flushed.false)) (search rules) c.if-first-n.false c.if-count-generations.true)

pub returns-then-any_damaged : goal.returns-then-any_damaged
returns-then-any_damaged c =
    refuse (many_damaged _ _ _ _ (sym c.is_flushed.ensures ∙ not-false _ (ap not c.if-not-is_flushed.false)) (search rules) c.if-first-n.false c.if-count-generations.false _ c.saturating_sub.ensures (sym c.any_damaged.ensures ∙ c.if-any_damaged.true))

pub many_placed-requires : goal.many_placed-requires
many_placed-requires c = record { entry_ok = c.requires; n_bound = (omega (arith, c.if-first-n.false), c.if-count-generations.false, many_whole (ids_of c.args.head.now c.args.generations.now c.args.archetypes.now c.args.indices.now c.args.pending.now) c.args.n _ c.saturating_sub.ensures (sym c.any_damaged.ensures ∙ c.if-any_damaged.false)) }

pub returns : goal.returns
returns c =
    many_done _ _ _ _ (sym c.is_flushed.ensures ∙ not-false _ (ap not c.if-not-is_flushed.false)) (search rules) c.if-first-n.false c.if-count-generations.false _ c.saturating_sub.ensures _ _ (sym c.any_damaged.ensures ∙ c.if-any_damaged.false) c.many_placed.ensures
