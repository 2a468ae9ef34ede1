-- `id_tables::place_set` meets its contract: each return is a way through its rule.
use mathlib.Core.Path.{ap}
use mathlib.Core.Bool.{not}
use Rattle.std.proofs.Common.{sym, ◌∙◌}
use borrow.Author.Tests.{not-true, not-false}
use Rattle.refusal.specs.Laws.{refuse}
use Rattle.id_tables.proofs.Looking.{set_past, set_absent, set_done}
use Rattle.id_tables.proofs.place.place_set.Goals as goal

pub returns-then-place-ge-MAX : goal.returns-then-place-ge-MAX
returns-then-place-ge-MAX c = refuse (set_past _ _ _ _ c.if-place-ge-MAX.true)

pub returns-then-not-is_live : goal.returns-then-not-is_live
returns-then-not-is_live c = refuse (set_absent _ _ _ _ c.if-place-ge-MAX.false (rw (c.generation.ensures, c.id-id.ensures) at (sym c.is_live.ensures ∙ not-true _ (ap not c.if-not-is_live.true))))

pub returns : goal.returns
returns c = set_done _ _ _ _ _ _ _ c.if-place-ge-MAX.false (rw (c.generation.ensures, c.id-id.ensures) at (sym c.is_live.ensures ∙ not-false _ (ap not c.if-not-is_live.false))) c.id-id.ensures c.put_place.ensures
