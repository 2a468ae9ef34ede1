-- `id_tables::IdTables::resolve_unknown_gen` meets its contract: each return is a way through its rule.
use Rattle.std.proofs.Common.{sym, arith}
use Rattle.refusal.specs.Laws.{handed_up_by, stop}
use Rattle.id_tables.specs.Lookup.{resolving}
use Rattle.id_tables.proofs.Entering.{entry_ok}
use Rattle.id_tables.proofs.Looking.{resolve_none, resolve_damaged, resolve_found}
use Rattle.id_tables.proofs.tables.IdTables.resolve_unknown_gen.Goals as goal

pub returns-in_err-tested : goal.returns-in_err-tested
unfolding resolving
returns-in_err-tested c = handed_up_by _ _ _ c.from_residual.ensures.1 (sym (stop _ _ _ c.in_err-tested.ensures))

pub overflow_add-self : goal.overflow_add-self
overflow_add-self c = let k = entry_ok _ _ c.in_ok-tested.ensures in omega (arith, c.fresh.ensures)

pub returns-then-self-fresh : goal.returns-then-self-fresh
returns-then-self-fresh c = resolve_none _ _ _ c.in_ok-tested.ensures c.fresh.ensures c.if-self-fresh.true

pub returns-in_default : goal.returns-in_default
returns-in_default c = resolve_damaged _ _ _ c.in_ok-tested.ensures c.fresh.ensures _ _ c.if-self-fresh.false c.generation_of-generation.ensures c.new.ensures _ c.in_default.is

pub returns : goal.returns
returns c = resolve_found _ _ _ c.in_ok-tested.ensures c.fresh.ensures _ _ c.if-self-fresh.false c.generation_of-generation.ensures c.new.ensures _ c.in-Ok.is
