-- `columns::allocate_step` meets its contract: the number is stored in the archetype's first unused row.
use mathlib.Core.Path.{refl}
use native.Mathlib.Omega.{arith}
use Rattle.columns.proofs.Places.{first_told}
use Rattle.columns.proofs.appending.allocate_step.Goals as goal

pub overflow_add-counts : goal.overflow_add-counts
overflow_add-counts c = omega (arith, c.requires.archetype_in_bounds, c.requires.kept.declared.shaped.rows_in c.args.archetype)

pub returns : goal.returns
returns c =
    (refl, rw (first_told _ _ c.requires.kept (omega (arith, c.requires.archetype_in_bounds)) _ c.span-first.ensures) at c.set_number.ensures, refl)
