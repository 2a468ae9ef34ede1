-- `decl::Declaration::totals` meets its contract: what the quick look settles, else what the tests say, and then the span of all archetypes.
use Rattle.refusal.specs.Laws.{handed_up}
use Rattle.decl.proofs.Measuring.{settles, measure_halts, span_measures, span_refused}
use Rattle.decl.proofs.Declaration.totals.Goals as goal

pub returns-in-Some : goal.returns-in-Some
returns-in-Some c = settles _ c.looked_at.ensures c.in-Some.is

pub returns-in_err-tested : goal.returns-in_err-tested
returns-in_err-tested c = handed_up _ _ c.from_residual.ensures.1 (measure_halts _ c.in_err-tested.ensures)

pub returns : goal.returns
returns c = span_measures _ c.in_ok-tested.ensures c.in_ok-all.ensures

pub returns-in_err-all : goal.returns-in_err-all
returns-in_err-all c = absurd (span_refused _ c.in_ok-tested.ensures c.in_err-all.ensures)
