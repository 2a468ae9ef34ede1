-- `id_tables::IdTables::contains` meets its contract: each return is a way through its rule.
use Rattle.std.proofs.Common.{sym, ap, ◌∙◌}
use Rattle.refusal.specs.Table.{granted}
use Rattle.refusal.specs.Laws.{handed_up}
use Rattle.handle.specs.OnBits.{on_first, on_zero, on_good}
use Rattle.id_tables.specs.Lookup.{containing}
use Rattle.id_tables.proofs.Entering.{entry_ok}
use Rattle.id_tables.proofs.tables.IdTables.contains.Goals as goal

pub returns-in_err-tested : goal.returns-in_err-tested
unfolding containing
returns-in_err-tested c = handed_up _ _ c.from_residual.ensures.1 (sym (on_first _ _ _ c.in_err-tested.ensures))

pub returns-in_default : goal.returns-in_default
unfolding containing
returns-in_default c = sym (on_zero _ _ _ _ _ c.in_ok-tested.ensures c.from_bits.ensures c.in_default.is)

pub is_contained-requires : goal.is_contained-requires
is_contained-requires c = entry_ok _ _ c.in_ok-tested.ensures

pub returns : goal.returns
unfolding containing
returns c = ap granted c.is_contained.ensures ∙ sym (on_good _ _ _ _ _ c.in_ok-tested.ensures c.from_bits.ensures c.in-Ok.is)
