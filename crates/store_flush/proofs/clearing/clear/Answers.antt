-- `store_flush::clearing::clear` meets its contract: each return is a way through its rule.
use mathlib.Core.Path.{refl, sym, ◌∙◌}
use Rattle.refusal.specs.Laws.{refuse, handed_up}
use Rattle.store_flush.proofs.Ways.{clear_first, clear_held, clear_done}
use Rattle.store_flush.proofs.clearing.clear.Goals as goal

pub returns-in_err-tested : goal.returns-in_err-tested
returns-in_err-tested c = rw (handed_up _ _ c.from_residual.ensures.1 refl) (refuse (clear_first _ c.in_err-tested.ensures))

pub returns-then-any_held : goal.returns-then-any_held
returns-then-any_held c = refuse (clear_held _ c.in_ok-tested.ensures (sym c.any_held.ensures ∙ c.if-any_held.true))

pub returns : goal.returns
returns c = clear_done _ c.in_ok-tested.ensures (sym c.any_held.ensures ∙ c.if-any_held.false) _ _ c.flushed.ensures (c.fill.ensures.after (λ y e. e))
