-- `decl::Declaration::tested` meets its contract: totals are answered where the tests pass.
use Rattle.refusal.specs.Laws.{handed_up}
use Rattle.decl.proofs.Measuring.{measure_passed, measure_refused}
use Rattle.decl.proofs.Declaration.tested.Goals as goal

pub returns : goal.returns
returns c = measure_passed _ c.in_ok-totals.ensures

pub returns-in_err-totals : goal.returns-in_err-totals
returns-in_err-totals c = handed_up _ _ c.from_residual.ensures.1 (measure_refused _ c.in_err-totals.ensures)
