-- `store_moves::types_before` meets its contract: the first type that does not come before, or the end.
use borrow.Author.Tests.{tests}
use mathlib.Core.Path.{sym, ◌∙◌}
use Prim.Native.Nat.{◌≤◌, ◌<◌}
use Rattle.std.proofs.Common.{rules}
use Rattle.std.proofs.lemmas.Iterator.{IsFirst-from_position, YieldsList-from_slice, index_from_first}
use Rattle.store_moves.specs.Target.{types_before}
use Rattle.store_moves.proofs.Seeking.{before_none, before_hit, before_miss}
use Rattle.store_moves.proofs.target.types_before.Goals as goal

pub returns : goal.returns
returns c =
    c.unwrap_or.ensures
    ∙ sym (index_from_first (types_before c.args.kind) (λ x. c.args.kind ≤ x) (λ x. x < c.args.kind) (before_none c.args.kind) (before_hit c.args.kind) (before_miss c.args.kind)
    c.args.types.now _
    (IsFirst-from_position _ _ _ (λ x. c.args.kind ≤ x) (λ x. x < c.args.kind) c.position.ensures.ran (YieldsList-from_slice c.args.types.now c.iter.ensures.rest) (λ x q k. search (rules, tests)) (λ x q k. search (rules, tests))))
