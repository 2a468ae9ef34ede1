-- `id_batches::loops::place_new` meets its contract: each table gets a run of stores.
use Prim.Native.Nat.{◌+◌}
use mathlib.Core.Path.{◌≡◌, sym, ◌∙◌}
use Rattle.std.proofs.Common.{rules, arith}
use Rattle.id_tables.specs.Runs.{up_from, length_up_from, up_from_at}
use Rattle.id_batches.proofs.Setting.{run_same}
use Rattle.id_batches.proofs.Writing.{written_at}
use Rattle.id_batches.proofs.loops.place_new.Goals as goal

pub returns : goal.returns
returns c = (
  c.fill.ensures ∙ run_same c.args.generations.now c.args.from c.args.count 1,
  c.fill-2.ensures ∙ run_same c.args.archetypes.now c.args.from c.args.count c.args.archetype,
  rw (length_up_from c.args.from c.args.count)
      (written_at _ c.args.indices.now _ (up_from c.args.first.0 c.args.count) c.args.from c.args.count _ c.write.ensures (search rules) (length_up_from _ _) (omega arith) (omega arith)
      (λ i v h p. let q : v ≡ c.args.first.0 + i = search rules in q ∙ sym (up_from_at _ _ i h))),
)
