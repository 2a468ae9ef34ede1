-- `store_moves::is_joined` meets its contract: the lengths, the first list, the second, then the third.
use Rattle.std.proofs.lemmas.Bool.Decides.{Decides-eqb}
use Rattle.std.proofs.lemmas.Slice.Eq.{slice_eq-Decides, strip_prefix_is}
use Rattle.store_moves.proofs.Splicing.{not_long, not_first, not_second, all_three}
use Rattle.store_moves.proofs.target.is_joined.Goals as goal

pub returns-then-xs-before : goal.returns-then-xs-before
returns-then-xs-before c = not_long c.args.xs.now c.args.before.now c.args.middle.now c.args.after.now c.if-xs-before.true

pub returns-in_default : goal.returns-in_default
returns-in_default c =
    not_first c.args.xs.now c.args.before.now c.args.middle.now c.args.after.now
    (rw c.in_default.is at (strip_prefix_is Decides-eqb c.args.xs.now c.args.before.now c.strip_prefix.result c.strip_prefix.ensures.cases))

pub returns-in_default-strip_prefix : goal.returns-in_default-strip_prefix
returns-in_default-strip_prefix c =
    not_second c.args.xs.now c.args.before.now c.args.middle.now c.args.after.now c.in-Some.rest.now
    (rw c.in-Some.is at (strip_prefix_is Decides-eqb c.args.xs.now c.args.before.now c.strip_prefix.result c.strip_prefix.ensures.cases))
    (rw c.in_default-strip_prefix.is at (strip_prefix_is Decides-eqb c.in-Some.rest.now c.args.middle.now c.strip_prefix-2.result c.strip_prefix-2.ensures.cases))

pub returns : goal.returns
returns c =
    all_three c.args.xs.now c.args.before.now c.args.middle.now c.args.after.now c.in-Some.rest.now
    (rw c.in-Some.is at (strip_prefix_is Decides-eqb c.args.xs.now c.args.before.now c.strip_prefix.result c.strip_prefix.ensures.cases))
    c.in-Some-strip_prefix.last.now
    (rw c.in-Some-strip_prefix.is at (strip_prefix_is Decides-eqb c.in-Some.rest.now c.args.middle.now c.strip_prefix-2.result c.strip_prefix-2.ensures.cases))
    _ (slice_eq-Decides Decides-eqb c.in-Some-strip_prefix.last.now c.args.after.now _ c.eq.ensures)
