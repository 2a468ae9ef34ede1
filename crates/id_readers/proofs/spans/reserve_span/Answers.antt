-- `id_readers::spans::reserve_span` meets its contract: the first tests, then what is left.
use Rattle.refusal.specs.Laws.{via}
use Rattle.id_tables.proofs.Entering.{entry_ok}
use Rattle.id_batches.proofs.Upward.{hands_up_by}
use Rattle.id_readers.proofs.Ways.{span_untested, span_tested}
use Rattle.id_readers.proofs.spans.reserve_span.Goals as goal

pub returns-in_err-tested : goal.returns-in_err-tested
returns-in_err-tested c = hands_up_by _ _ _ c.from_residual.ensures.1 (span_untested _ _ c.in_err-tested.ensures)

pub span_reserved-requires : goal.span_reserved-requires
span_reserved-requires c = entry_ok _ _ c.in_ok-tested.ensures

pub returns : goal.returns
returns c = via (span_tested _ _ c.in_ok-tested.ensures) c.span_reserved.ensures
