-- `id_readers::spans::reserve_next` meets its contract: each return is a way through its rule.
use mathlib.Core.Path.{sym}
use native.Mathlib.Omega.{arith}
use borrow.Author.Tests.{ltb-false, eqb-true}
use Rattle.refusal.specs.Laws.{refuse, grant}
use Rattle.handle.specs.RoundTrip.{new_good, new_bad}
use Rattle.id_readers.proofs.Ways.{step_short, step_zero, step_old, step_new, step_done}
use Rattle.id_readers.proofs.spans.reserve_next.Goals as goal

-- the entry at the position, and its generation

pub returns-in_default-get : goal.returns-in_default-get
returns-in_default-get c =
    let entry = c.in-Some.ensures.lookup.3 in
    refuse (step_short _ _ entry.0 (rw (entry.1 0) at (ltb-false _ _ (sym c.in_default-get.ensures.lookup.0))))

pub returns-in_default-new : goal.returns-in_default-new
returns-in_default-new c =
    let entry = c.in-Some.ensures.lookup.3 in
    let generation = c.in-Some-get.ensures.lookup.3 in
    let zero = new_bad _ _ _ _ c.new.ensures c.in_default-new.is in
    refuse (step_zero _ _ entry.0 (rw (entry.1 0) at generation.0) (rw (generation.1 0, entry.1 0) at zero))

pub returns-in-Some : goal.returns-in-Some
returns-in-Some c =
    let entry = c.in-Some.ensures.lookup.3 in
    let generation = c.in-Some-get.ensures.lookup.3 in
    let made = new_good _ _ _ _ c.new.ensures c.in-Ok.is in
    rw (made.0, generation.1 0, entry.1 0) (grant (step_old _ _ entry.0 (rw (entry.1 0) at generation.0) (rw (generation.1 0, entry.1 0) at made.1)))

-- past the part

pub returns-in_err-handle : goal.returns-in_err-handle
returns-in_err-handle c = absurd (omega (arith, eqb-true 1 0 (new_bad _ _ _ _ c.new-then-number-end.ensures c.in_err-handle.was)))

pub returns-then-number-end : goal.returns-then-number-end
returns-then-number-end c =
    let made = new_good _ _ _ _ c.new-then-number-end.ensures c.in_ok-handle.was in
    rw made.0 (grant (step_new _ _ (ltb-false _ _ (sym c.in_default.ensures.lookup.0)) c.if-number-end.true))

pub returns : goal.returns
returns c = grant (step_done _ _ (ltb-false _ _ (sym c.in_default.ensures.lookup.0)) c.if-number-end.false)
