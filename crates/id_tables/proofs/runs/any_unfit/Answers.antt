use Rattle.std.proofs.Common.{◌≤◌, get_or, refl, ◌∙◌, arith, rules, ne_eqb}
use lib.Bits.{and_le_l}
use Rattle.handle.specs.Bits.{MAX}
use Rattle.id_tables.proofs.Damage.{damage_none, below_at}
use Rattle.id_tables.proofs.Scanning.{all_seen, none_lost, lost_some, lost_is, lost_zero, lost_not}
use Rattle.id_tables.proofs.runs.any_unfit.Goals as goal
use Rattle.id_tables.proofs.runs.any_unfit.Goals.{then-generations-n-eq0, else-generations-n-eq0}

pub loop-number-init : goal.loop-number-init
loop-number-init c = (none_lost, search rules, search rules)

-- the number is one that the tables have

pub bounds-generations-n : goal.bounds-generations-n
bounds-generations-n c = below_at _ _ c.requires.0 c.loop-number.number-index c.loop-number-test.true

pub bounds-indices-n : goal.bounds-indices-n
bounds-indices-n c = below_at _ _ c.requires.1 c.loop-number.number-index c.loop-number-test.true

pub loop-number-preserved : goal.loop-number-preserved
loop-number-preserved c =
    let n = get_or c.args.numbers.now c.loop-number.number-index 0 in
    let b = below_at _ _ c.requires.0 c.loop-number.number-index c.loop-number-test.true in
    let x : get_or c.args.indices.now n 0 ≤ MAX = omega (arith, c.type_inv.indices n) in (
      elim c.if-generations-n-eq0.branch [
        | then-generations-n-eq0 w ↦ lost_zero c.args.generations.now c.args.indices.now c.args.numbers.now _ _ c.loop-number.number-index c.loop-number.invariant.0 c.loop-number-test.true _ _ w.if-generations-n-eq0.true w.zeros-is
        | else-generations-n-eq0 w ↦ lost_not c.args.generations.now c.args.indices.now c.args.numbers.now _ _ c.loop-number.number-index c.loop-number.invariant.0 c.loop-number-test.true _ _ b w.if-generations-n-eq0.false w.zeros-is refl c.loop-number.invariant.2 x
      ],
      elim c.if-generations-n-eq0.branch [ then-generations-n-eq0 w ↦ omega arith | else-generations-n-eq0 w ↦ omega arith ],
      omega (arith, and_le_l c.loop-number.shared (get_or c.args.indices.now n 0)),
    )

pub returns-then-zeros-ne0 : goal.returns-then-zeros-ne0
returns-then-zeros-ne0 c = rw (ne_eqb _ _ c.if-zeros-ne0.true) (lost_some _ _ c.loop-number.invariant.0 c.if-zeros-ne0.true)

pub returns-else-zeros-ne0 : goal.returns-else-zeros-ne0
returns-else-zeros-ne0 c = lost_is _ _ c.if-zeros-ne0.false ∙ all_seen c.loop-number.invariant.0 (damage_none _ _ _ _ _ c.loop-number-test.false)
