use Prim.{tt}
use Rattle.std.proofs.Common.{◌<◌, length, refl, sym, ap, ◌∙◌, arith, rules, lit<}
use Rattle.std.specs.Slice.Iter.{chunks_exact_rest}
use Rattle.id_tables.specs.Lookup.{any_is}
use Rattle.id_tables.proofs.Scanning.{block_has, block_lacks, left_all, left_more, left_last}
use Rattle.id_tables.proofs.runs.has.Goals as goal

pub loop-block-init : goal.loop-block-init
loop-block-init c =
    let b = c.chunks_exact-blocks.ensures in
    rw (c.into_iter-block-iterator.ensures.into_iter_gives, b.size, b.rest) (lit< tt, tt, refl, refl, left_all c.args.entries.now)

pub returns-then-any_is : goal.returns-then-any_is
returns-then-any_is c = sym (c.loop-block.invariant.3 ∙ block_has _ _ _ _ c.in-Some.ensures.steps.1.0 (sym c.if-any_is.ensures))

pub loop-block-preserved : goal.loop-block-preserved
loop-block-preserved c =
    let s = c.in-Some.ensures.steps in (
      search rules,
      tt,
      s.0 ∙ c.loop-block.invariant.2,
      c.loop-block.invariant.3 ∙ block_lacks _ _ _ _ s.1.0 (sym c.if-any_is.ensures),
      left_more _ _ _ _ s.1.0 (s.1.1 ∙ c.loop-block.invariant.2) c.loop-block.invariant.4,
    )

-- what is left is shorter than a block, and so it is the remainder
pub returns : goal.returns
returns c =
    let h : length (chunks_exact_rest c.loop-block.block-iterator) < 64 = omega (arith, c.in-None.ensures.steps.1.0, c.loop-block.invariant.2) in
    let r = c.remainder-rest.ensures ∙ c.chunks_exact-blocks.ensures.remainder ∙ sym (left_last _ _ h c.loop-block.invariant.4) in
    c.any_is-2.ensures ∙ ap (any_is c.args.number) r ∙ sym c.loop-block.invariant.3
