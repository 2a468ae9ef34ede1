-- `column_entry::wrong_size` meets its contract: the first column of the type decides, of those that have a size.
use Prim.Native.Nat.{ℕ}
use mathlib.Core.Path.{◌≡◌}
use Rattle.std.proofs.Common.{rules, tests, take}
use Rattle.std.proofs.lemmas.Iterator.{IsFirst-from_position, YieldsList-from_slice}
use Rattle.column_entry.proofs.Loops.{size_undeclared, size_at}
use Rattle.column_entry.proofs.wrong_size.Goals as goal

pub returns-in_default : goal.returns-in_default
returns-in_default c =
    size_undeclared _ _ _ _ _ c.min-known.ensures
    (IsFirst-from_position c.position.new.self _ _ (λ (x : ℕ). x ≡ c.args.kind) (λ (x : ℕ). x ≡ c.args.kind → ⊥) c.in_default.ensures.ran (YieldsList-from_slice (take c.min-known.result c.args.types.now) cc) (λ x q k. search (rules, tests)) (λ x q k. search (rules, tests)))

pub returns : goal.returns
returns c =
    size_at _ _ _ _ _ c.min-known.ensures _
    (IsFirst-from_position c.position.new.self _ _ (λ (x : ℕ). x ≡ c.args.kind) (λ (x : ℕ). x ≡ c.args.kind → ⊥) c.in-Some.ensures.ran (YieldsList-from_slice (take c.min-known.result c.args.types.now) cc) (λ x q k. search (rules, tests)) (λ x q k. search (rules, tests)))
