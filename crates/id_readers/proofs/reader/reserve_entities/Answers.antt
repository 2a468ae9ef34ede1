-- `id_readers::reader::reserve_entities` meets its contract: the part that the span names is one of the pending list.
use native.Mathlib.Omega.{arith}
use Rattle.std.proofs.Common.{ap, refl}
use Rattle.id_tables.specs.Ids.{Ids}
use Rattle.refusal.specs.Laws.{refuse, did_refused, handed_up_by}
use Rattle.id_readers.proofs.Heads.{head_left, spanned_head}
use Rattle.id_readers.proofs.Reading.{reader_refused, reader_granted, span_fits}
use Rattle.id_readers.proofs.reader.reserve_entities.Goals as goal

pub returns-in_err-span : goal.returns-in_err-span
returns-in_err-span c =
    rw (handed_up_by _ _ _ c.from_residual.ensures.1 refl) (refuse (did_refused _ (reader_refused _ _ c.in_err-span.ensures)).0)

pub returns : goal.returns
returns c =
    let e = head_left (spanned_head _ _) c.in_ok-span.ensures in
    rw (ap (λ (t : Ids). t.pending) e) at (rw e at (reader_granted _ _ _ _ c.in_ok-span.ensures))

-- the part is within the pending list

pub offset_bounds-pending-span : goal.offset_bounds-pending-span
offset_bounds-pending-span c = let fits = span_fits _ _ _ _ c.in_ok-span.ensures in omega (arith, fits)

pub slice_bounds-result-count : goal.slice_bounds-result-count
slice_bounds-result-count c = (span_fits _ _ _ _ c.in_ok-span.ensures).0

pub slice_bounds-result-start : goal.slice_bounds-result-start
slice_bounds-result-start c = (span_fits _ _ _ _ c.in_ok-span.ensures).0

pub slice_bounds-result-end : goal.slice_bounds-result-end
slice_bounds-result-end c =
    rw (ap (λ (t : Ids). t.pending) (head_left (spanned_head _ _) c.in_ok-span.ensures)) at (span_fits _ _ _ _ c.in_ok-span.ensures).1
