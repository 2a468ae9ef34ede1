-- `id_batches::loops::list_old` meets its contract: the part of the output is written whole.
use mathlib.Core.Path.{refl}
use lib.ListN.{length}
use Rattle.std.proofs.Common.{rules, arith}
use Rattle.id_batches.specs.Reserve.{old_handles}
use Rattle.id_batches.proofs.Setting.{old_long}
use Rattle.id_batches.proofs.Writing.{written_at}
use Rattle.id_batches.proofs.loops.list_old.Goals as goal

pub returns : goal.returns
returns c =
    written_at _ c.args.out.now _ (old_handles c.args.generations.now c.args.numbers.now) 0 (length c.args.numbers.now) _ c.write.ensures (search rules) (old_long _ _ refl) (omega arith) (omega arith)
    (λ i v h p. search rules)
