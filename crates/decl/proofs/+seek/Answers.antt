-- `decl::seek` meets its contract: each return is a step of the search.
use Rattle.std.proofs.Common.{arith}
use Rattle.decl.proofs.Search.{sought_none, sought_hit, sought_right, sought_left}
use Rattle.decl.proofs.+seek.Goals as goal

pub returns-then-hi-lo : goal.returns-then-hi-lo
returns-then-hi-lo t c = λ n h. sought_none _ _ _ _ c.if-hi-lo.true n

pub returns-then-x-kind : goal.returns-then-x-kind
returns-then-x-kind t c = sought_hit _ _ _ _ (omega arith) c.if-x-kind.true

pub returns-then-x-kind-2 : goal.returns-then-x-kind-2
returns-then-x-kind-2 t c = sought_right _ _ _ _ (omega arith) c.if-x-kind-2.true c.seek.ensures

pub returns : goal.returns
returns t c = sought_left _ _ _ _ (omega arith) (omega arith) c.seek-2.ensures
