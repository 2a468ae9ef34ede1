-- A step fills the next place, and at the end there is no value.
use Rattle.std.proofs.Common.{◌≡◌, sym, ap, ◌∙◌, set, length}
use Rattle.std.proofs.lemmas.List.{length-set, set_past}
use Rattle.replay_line.specs.Tables.{filled}
use Rattle.replay_line.proofs.Turns.{filled_next, filled_all}
use Rattle.replay_line.proofs.fills.fill.Goals as goal
use Rattle.replay_line.proofs.fills.fill.Goals.{then-i-table, else-i-table}

pub loop-i-preserved : goal.loop-i-preserved
loop-i-preserved g c =
    elim c.if-i-table.branch [
      | then-i-table w ↦ (
        filled_next g.T.Keeps.keeps _ _ _ _ c.index-values-i.result _ c.loop-i-test.true c.loop-i.invariant.0
            (w.table-is ∙ ap (λ v. set c.loop-i.table c.loop-i.i v) (w.keep.ensures ∙ ap g.T.Keeps.keeps c.index-values-i.is)),
        ap length w.table-is ∙ length-set _ _ _ ∙ c.loop-i.invariant.1,
      )
      | else-i-table w ↦ (
        filled_next g.T.Keeps.keeps _ _ _ _ c.index-values-i.result _ c.loop-i-test.true c.loop-i.invariant.0
            (w.table-is ∙ sym (set_past _ _ _ w.if-i-table.false)),
        ap length w.table-is ∙ c.loop-i.invariant.1,
      )
    ]

pub returns : goal.returns
unfolding filled
returns g c = filled_all g.T.Keeps.keeps _ _ _ _ c.loop-i-test.false c.loop-i.invariant.0
