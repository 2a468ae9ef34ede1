-- `decl::exact::tested` meets its contract: a test that fails decides, and where none does all the rules are passed.
use mathlib.Core.Path.{sym, ◌∙◌}
use Rattle.refusal.specs.Laws.{handed_up}
use Rattle.decl.proofs.Checks.{shape_halts, columns_lent, risen, size_refused, fall_refused, clash_refused, all_passed}
use Rattle.decl.proofs.exact.tested.Goals as goal

pub returns-in_err-shape_tested : goal.returns-in_err-shape_tested
returns-in_err-shape_tested c = handed_up _ _ c.from_residual.ensures.1 (shape_halts _ c.in_err-shape_tested.ensures)

pub returns-then-any_above : goal.returns-then-any_above
returns-then-any_above c = size_refused _ c.in_ok-shape_tested.ensures (sym c.any_above.ensures ∙ c.if-any_above.true)

pub any_falls-requires : goal.any_falls-requires
any_falls-requires c = columns_lent _ c.in_ok-shape_tested.ensures

pub returns-then-any_falls : goal.returns-then-any_falls
returns-then-any_falls c =
    fall_refused _ c.in_ok-shape_tested.ensures
    (sym c.any_falls.ensures ∙ c.if-any_falls.true)

pub any_clash-requires : goal.any_clash-requires
any_clash-requires c =
    risen _ c.in_ok-shape_tested.ensures
    (sym c.any_falls.ensures ∙ c.if-any_falls.false)

pub returns-then-any_clash : goal.returns-then-any_clash
returns-then-any_clash c =
    clash_refused _ c.in_ok-shape_tested.ensures
    (sym c.any_clash.ensures ∙ c.if-any_clash.true)

pub returns : goal.returns
returns c =
    all_passed _ c.in_ok-shape_tested.ensures
    (sym c.any_above.ensures ∙ c.if-any_above.false)
    (sym c.any_falls.ensures ∙ c.if-any_falls.false)
    (sym c.any_clash.ensures ∙ c.if-any_clash.false)
