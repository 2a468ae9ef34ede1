-- `id_batches::loops::old_handle` meets its contract: the number is one that the generations have.
use mathlib.Core.Path.{sym, ◌∙◌}
use Rattle.id_tables.proofs.Damage.{below_at}
use Rattle.id_batches.proofs.Setting.{old_at}
use Rattle.id_batches.proofs.loops.old_handle.Goals as goal

pub bounds-generations-number : goal.bounds-generations-number
bounds-generations-number c = below_at _ _ c.requires.1 c.args.i c.requires.0

pub returns : goal.returns
returns c = c.bits_of.ensures ∙ sym (old_at c.args.generations.now c.args.numbers.now c.args.i c.requires.0)
