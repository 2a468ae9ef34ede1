-- `id_batches::loops::list_new` meets its contract: the part of the output is written whole.
use Prim.Native.Nat.{◌+◌}
use mathlib.Core.Path.{◌≡◌, sym, ◌∙◌}
use Rattle.std.proofs.Common.{rules, arith}
use Rattle.handle.specs.Bits.{bits_of}
use Rattle.id_tables.specs.Runs.{up_from, length_up_from}
use Rattle.id_batches.specs.Reserve.{new_handles}
use Rattle.id_batches.proofs.Setting.{new_at, new_long}
use Rattle.id_batches.proofs.Writing.{written_at}
use Rattle.id_batches.proofs.loops.list_new.Goals as goal

pub returns : goal.returns
returns c =
    written_at _ c.args.out.now _ (new_handles (up_from c.args.from c.args.count)) c.args.position c.args.count _ c.write.ensures (search rules) (new_long _ ∙ length_up_from _ _) (omega arith) (omega arith)
    (λ i v h p. let q : v ≡ bits_of 1 (c.args.from + i) = search rules in q ∙ sym (new_at _ _ i h))
