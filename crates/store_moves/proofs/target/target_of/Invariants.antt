-- `store_moves::target_of` meets its contract. The loop's invariant: no archetype so far is of the types, and `from` is where the next one's begin.
use Prim.Native.Nat.{◌≤◌}
use lib.ListN.{length}
use Rattle.decl.specs.Decl.{decl_in}
use Rattle.store_moves.specs.Target.{changed}
use Rattle.store_moves.proofs.Seeking.{Sought}
use Rattle.store_moves.proofs.target.target_of.Given as goal

abbrev pub invariant-loop-a : goal.invariant-loop-a
invariant-loop-a l = (l.from ≤ length l.types) × Sought (decl_in l.declaration) (changed l.change l.place l.own) l.from l.a
