-- `columns::put` meets its contract: the tests decide, then whether the column is there.
use mathlib.Core.Path.{refl}
use Rattle.refusal.specs.Laws.{handed_up}
use Rattle.columns.proofs.Answers.{put_refused, put_asked, put_missing, put_did}
use Rattle.columns.proofs.storing.put.Goals as goal

pub returns-in_err-put_tested : goal.returns-in_err-put_tested
returns-in_err-put_tested c = rw (handed_up _ _ c.from_residual.ensures.1 refl) (put_refused _ _ _ _ _ _ c.in_err-put_tested.ensures)

pub cell_of-requires : goal.cell_of-requires
cell_of-requires c = let e = put_asked _ _ _ _ _ _ c.in_ok-put_tested.ensures in record { kept = e.0; archetype_in_bounds = e.1 }

pub returns-in_err-start : goal.returns-in_err-start
returns-in_err-start c =
    rw (handed_up _ _ c.from_residual-in_err-start.ensures.1 refl)
    (put_missing _ _ _ _ _ _ c.in_ok-put_tested.ensures c.in_err-start.ensures)

pub returns : goal.returns
returns c = put_did _ _ _ _ _ _ c.in_ok-put_tested.ensures _ _ _ c.in_ok-start.ensures c.write.ensures
