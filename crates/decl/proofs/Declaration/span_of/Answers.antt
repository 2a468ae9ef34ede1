use native.Mathlib.Omega.{arith}
use Rattle.decl.proofs.Lists.{any_none, any_done}
use Rattle.decl.proofs.Counting.{counted_start, counted_done}
use Rattle.decl.proofs.Spanning.{span_place, span_many, span_grown, part_small, own_grown, own_fits, own_next, own_told}
use Rattle.decl.proofs.Declaration.span_of.Goals as goal

pub returns-then-self-archetype : goal.returns-then-self-archetype
returns-then-self-archetype c = span_place _ _ c.if-self-archetype.true

pub returns-then-archetype-gt-ARCHETYPES : goal.returns-then-archetype-gt-ARCHETYPES
returns-then-archetype-gt-ARCHETYPES c = span_many _ _ c.if-self-archetype.false c.if-archetype-gt-ARCHETYPES.true

pub loop-a-init : goal.loop-a-init
loop-a-init c = (counted_start _, any_none _)

pub returns-in_default : goal.returns-in_default
returns-in_default c =
    span_grown _ _ c.if-self-archetype.false c.if-archetype-gt-ARCHETYPES.false c.loop-a.a (omega arith)
    (own_grown _ c.loop-a.invariant.0 c.part_of.ensures c.in_default.is)

pub overflow_add-row : goal.overflow_add-row
overflow_add-row c = omega (arith, c.loop-a.invariant.0.rows_small, part_small c.part_of.ensures c.in-Some.is, c.if-archetype-gt-ARCHETYPES.false)

pub overflow_add-column : goal.overflow_add-column
overflow_add-column c = omega (arith, c.loop-a.invariant.0.columns_small, part_small c.part_of.ensures c.in-Some.is, c.if-archetype-gt-ARCHETYPES.false)

pub overflow_mul-base : goal.overflow_mul-base
overflow_mul-base c = omega (arith, part_small c.part_of.ensures c.in-Some.is)

pub overflow_add-base : goal.overflow_add-base
overflow_add-base c = omega (arith, c.loop-a.invariant.0.base_small, part_small c.part_of.ensures c.in-Some.is, c.if-archetype-gt-ARCHETYPES.false)

pub loop-a-preserved : goal.loop-a-preserved
loop-a-preserved c = (
  own_next _ c.loop-a.invariant.0 c.part_of.ensures c.in-Some.is,
  own_fits _ c.loop-a.invariant.0 c.part_of.ensures c.in-Some.is c.loop-a.invariant.1,
)

pub returns-in_default-part_of : goal.returns-in_default-part_of
returns-in_default-part_of c =
    span_grown _ _ c.if-self-archetype.false c.if-archetype-gt-ARCHETYPES.false c.args.archetype (omega arith)
    (own_grown _ (counted_done _ c.loop-a.invariant.0 (omega arith) (omega arith)) c.part_of-2.ensures c.in_default-part_of.is)

pub returns : goal.returns
returns c =
    own_told _ (counted_done _ c.loop-a.invariant.0 (omega arith) (omega arith)) c.part_of-2.ensures c.in-Some-part_of.is c.if-self-archetype.false c.if-archetype-gt-ARCHETYPES.false
    (any_done _ _ _ c.loop-a.invariant.1 (omega arith) (omega arith))
