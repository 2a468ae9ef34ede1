-- `store_reads::hold` meets its contract: the column's word, then what the step leaves of it.
use Prim.Native.Nat.{◌<◌}
use native.Mathlib.Omega.{arith}
use mathlib.Core.Path.{refl}
use lib.ListN.{length}
use Rattle.refusal.specs.Laws.{handed_up}
use Rattle.store_reads.proofs.Holding.{asked_in, hold_refused, hold_stops, hold_stores}
use Rattle.store_reads.proofs.words.hold.Goals as goal

pub returns-in_err-position : goal.returns-in_err-position
returns-in_err-position g c = λ rule keeps. rw (handed_up _ _ c.from_residual.ensures.1 refl) (hold_refused rule _ _ _ c.in_err-position.ensures)

-- the word is one of those that are lent
pub offset_bounds-words-position : goal.offset_bounds-words-position
offset_bounds-words-position g c =
    let inside : c.in_ok-position.position < length c.args.words.now = asked_in _ _ _ _ c.in_ok-position.ensures in
    omega (arith, inside)

pub bounds-words-position : goal.bounds-words-position
bounds-words-position g c = asked_in _ _ _ _ c.in_ok-position.ensures

pub offset_bounds-words-position-2 : goal.offset_bounds-words-position-2
offset_bounds-words-position-2 g c =
    let inside : c.in_ok-position.position < length c.args.words.now = asked_in _ _ _ _ c.in_ok-position.ensures in
    omega (arith, inside)

pub bounds-words-position-2 : goal.bounds-words-position-2
bounds-words-position-2 g c = asked_in _ _ _ _ c.in_ok-position.ensures

pub returns-in_err-words : goal.returns-in_err-words
returns-in_err-words g c = λ rule keeps. rw (handed_up _ _ c.from_residual-in_err-words.ensures.1 refl) (hold_stops rule _ _ _ _ c.in_ok-position.ensures (keeps _ _ c.in_err-words.ensures))

pub returns : goal.returns
returns g c = λ rule keeps. hold_stores rule _ _ _ _ c.in_ok-position.ensures (keeps _ _ c.in_ok-words.ensures)
