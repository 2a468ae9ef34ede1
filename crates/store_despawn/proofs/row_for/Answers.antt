-- `store_despawn::row_for` meets its contract: the first tests refuse, or the handle does; else its own tests find the row.
use Rattle.store_tables.proofs.Entering.{entered}
use Rattle.store_despawn.proofs.Ending.{refuses, first_refuse, refused_zero, row_found}
use Rattle.store_despawn.proofs.row_for.Goals as goal

pub returns-in_err-tested : goal.returns-in_err-tested
returns-in_err-tested c = refuses _ _ _ _ c.from_residual.ensures.1 (first_refuse _ _ c.in_err-tested.ensures)

pub returns-in_default : goal.returns-in_default
returns-in_default c = refused_zero _ _ c.in_ok-tested.ensures _ c.from_bits.ensures _ c.in_default.is

pub row_leaving-requires : goal.row_leaving-requires
row_leaving-requires c = entered _ _ c.in_ok-tested.ensures

pub returns : goal.returns
returns c = row_found _ _ c.in_ok-tested.ensures _ c.from_bits.ensures _ c.in-Ok.is _ c.row_leaving.ensures
