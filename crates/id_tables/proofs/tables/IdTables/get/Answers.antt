-- `id_tables::IdTables::get` meets its contract: each return is a way through its rule.
use Rattle.std.proofs.Common.{sym, ◌∙◌}
use Rattle.refusal.specs.Laws.{handed_up}
use Rattle.handle.specs.OnBits.{on_first, on_zero, on_good}
use Rattle.id_tables.specs.Lookup.{getting}
use Rattle.id_tables.proofs.tables.IdTables.get.Goals as goal

pub returns-in_err-tested : goal.returns-in_err-tested
unfolding getting
returns-in_err-tested c = handed_up _ _ c.from_residual.ensures.1 (sym (on_first _ _ _ c.in_err-tested.ensures))

pub returns-in_default : goal.returns-in_default
unfolding getting
returns-in_default c = sym (on_zero _ _ _ _ _ c.in_ok-tested.ensures c.from_bits.ensures c.in_default.is)

pub returns : goal.returns
unfolding getting
returns c = c.got.ensures ∙ sym (on_good _ _ _ _ _ c.in_ok-tested.ensures c.from_bits.ensures c.in-Ok.is)
